use native.Mathlib.Omega.{arith}
use Rattle.ring.proofs.Also.{refuses}
use Rattle.script.specs.Run.{ran}
use Rattle.script.proofs.Join.{counted_by, stopped, unrefused, cycle_stopped, cycle_goes}
use Rattle.script.proofs.repeat.cycle_step.Goals as goal

pub returns-then-is_some-clause-value : goal.returns-then-is_some-clause-value
returns-then-is_some-clause-value c = cycle_stopped _ _ _ _ _ (stopped _ c.is_some.ensures c.if-is_some.true)

pub returns-in-Ok-clause-value : goal.returns-in-Ok-clause-value
returns-in-Ok-clause-value c =
    let a = c.args in
    rw (counted_by a.s.b c.in-Ok.r.held (omega arith))
    (cycle_goes a.rig.now.rom.now a.event a.line a.timer (ran a.s a.rig.now) (unrefused _ c.is_some.ensures c.if-is_some.false) c.in-Ok.ensures)

pub returns-in-Err-clause-value : goal.returns-in-Err-clause-value
returns-in-Err-clause-value c =
    let a = c.args in
    rw (refuses c.in-Err.refusal) at
    (cycle_goes a.rig.now.rom.now a.event a.line a.timer (ran a.s a.rig.now) (unrefused _ c.is_some.ensures c.if-is_some.false) c.in-Err.ensures)
