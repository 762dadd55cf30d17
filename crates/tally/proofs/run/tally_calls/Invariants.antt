use Rattle.std.proofs.Common.{◌≡◌}
use Rattle.script.specs.Rig.{desk_of, holding}
use Rattle.tally.specs.Run.{tallying, keeping, Told, calls_tallied}
use Rattle.tally.proofs.run.tally_calls.Given as goal

abbrev pub invariant-loop-i : goal.invariant-loop-i
invariant-loop-i l = record {
  rig : l.rig ≡ holding l.fn.rig (desk_of l.rig);
  lent : l.t ≡ keeping l.fn.t l.t;
  told : Told l.fn.t → Told l.t;
  is : tallying l.t l.rig ≡ calls_tallied l.fn.rig.rom.now l.row l.says l.i (tallying l.fn.t l.fn.rig);
}
