use Rattle.std.proofs.Common.{◌≡◌}
use Rattle.script.specs.Rig.{desk_of, holding}
use Rattle.append.specs.Lent.{keeping}
use Rattle.printout.specs.Rows.{standing, start, steps}
use Rattle.printout.proofs.rows.run_rows.Given as goal

abbrev pub invariant-loop-i : goal.invariant-loop-i
invariant-loop-i l = record {
  same : l.rig ≡ holding l.fn.rig (desk_of l.rig);
  kept : l.out ≡ keeping l.fn.out l.out;
  is : standing l.s l.rig l.out ≡ steps l.fn.rig.rom.now l.script l.show l.i (start (desk_of l.fn.rig) l.first l.fn.out.text.now);
}
