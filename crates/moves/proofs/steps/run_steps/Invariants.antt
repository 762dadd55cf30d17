use Rattle.std.proofs.Common.{◌≡◌}
use Rattle.touch.specs.Reach.{spot_number}
use Rattle.moves.specs.Steps.{running, keeping, steps}
use Rattle.moves.proofs.steps.run_steps.Given as goal

abbrev pub invariant-loop-i : goal.invariant-loop-i
invariant-loop-i l = record {
  same : l.w ≡ keeping l.fn.w l.w;
  is : running l.w l.origins ≡ steps l.fn.w.rig.rom.now l.script (spot_number l.only) l.i (running l.fn.w l.fn.origins);
}
