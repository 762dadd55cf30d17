use Rattle.std.proofs.Common.{◌≡◌}
use Rattle.script.specs.{Rig.desk_of, Rig.holding, Run.ran, Run.cycles_run}
use Rattle.script.proofs.repeat.run_cycles.Given as goal

abbrev pub invariant-loop-i : goal.invariant-loop-i
invariant-loop-i l = record {
  same : l.rig ≡ holding l.fn.rig (desk_of l.rig);
  is : ran l.s l.rig ≡ cycles_run l.fn.rig.rom.now l.event l.line l.timer l.i (desk_of l.fn.rig);
}
