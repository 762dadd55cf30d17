use Rattle.std.proofs.Common.{◌≡◌}
use Rattle.script.specs.Rig.{desk_of, holding}
use Rattle.tally.specs.Run.{tallying, keeping, Told, rows_tallied}
use Rattle.tally.proofs.run.tally_script.Given as goal

abbrev pub invariant-loop-row : goal.invariant-loop-row
invariant-loop-row l = record {
  rig : l.rig ≡ holding l.fn.rig (desk_of l.rig);
  lent : l.t ≡ keeping l.fn.t l.t;
  told : Told l.fn.t → Told l.t;
  is : tallying l.t l.rig ≡ rows_tallied l.fn.rig.rom.now l.script l.limits l.row (tallying l.fn.t l.fn.rig);
}
