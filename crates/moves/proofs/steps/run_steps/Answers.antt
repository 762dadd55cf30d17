use Rattle.std.proofs.Common.{refl, ap}
use Rattle.moves.specs.Steps.{steps}
use Rattle.moves.specs.declared.steps.Run.{Run}
use Rattle.moves.proofs.Join.{then_kept, steps_more}
use Rattle.moves.proofs.steps.run_steps.Goals as goal

pub loop-i-init : goal.loop-i-init
unfolding steps
loop-i-init c = record { same = refl; is = refl }

pub loop-i-preserved : goal.loop-i-preserved
loop-i-preserved c =
    let at = c.loop-i.invariant in
    let step = c.step.ensures in record {
      same = then_kept c.args.w.now _ _ at.same step.same;
      is = steps_more _ _ _ _ at.is (ap (λ (w : Run). w.rig.rom.now) at.same) step.value;
    }
