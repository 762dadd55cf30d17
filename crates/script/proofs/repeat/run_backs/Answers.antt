use Rattle.std.proofs.Common.{refl}
use Rattle.script.specs.Run.{backs_run}
use Rattle.script.proofs.Join.{then_same, backs_more}
use Rattle.script.proofs.repeat.run_backs.Goals as goal

pub loop-i-init : goal.loop-i-init
unfolding backs_run
loop-i-init c = record { same = refl; is = refl }

pub loop-i-preserved : goal.loop-i-preserved
loop-i-preserved c =
    let at = c.loop-i.invariant in
    let step = c.back_step-s.ensures in record { same = then_same c.args.rig.now _ _ at.same step.same; is = backs_more _ _ at.is step.value }
