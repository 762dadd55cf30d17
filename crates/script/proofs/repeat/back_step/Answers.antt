use Rattle.ring.proofs.Also.{refuses}
use Rattle.script.specs.Run.{ran}
use Rattle.script.proofs.Join.{stopped, unrefused, back_stopped, back_goes}
use Rattle.script.proofs.repeat.back_step.Goals as goal

pub returns-then-is_some-clause-value : goal.returns-then-is_some-clause-value
returns-then-is_some-clause-value c = back_stopped _ (stopped _ c.is_some.ensures c.if-is_some.true)

pub returns-in-Ok-clause-value : goal.returns-in-Ok-clause-value
returns-in-Ok-clause-value c =
    let a = c.args in
    back_goes (ran a.s a.rig.now) (unrefused _ c.is_some.ensures c.if-is_some.false) c.in-Ok.ensures

pub returns-in-Err-clause-value : goal.returns-in-Err-clause-value
returns-in-Err-clause-value c =
    let a = c.args in
    rw (refuses c.in-Err.refusal) at (back_goes (ran a.s a.rig.now) (unrefused _ c.is_some.ensures c.if-is_some.false) c.in-Err.ensures)
