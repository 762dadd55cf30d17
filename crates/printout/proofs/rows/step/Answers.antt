use Rattle.std.proofs.Common.{le-leb}
use Rattle.std.proofs.lemmas.Bool.{lt-leb}
use Rattle.script.proofs.Join.{stopped, unrefused}
use Rattle.printout.specs.Rows.{standing}
use Rattle.printout.proofs.Join.{step_none, step_refused, step_full, step_goes}
use Rattle.printout.proofs.rows.step.Goals as goal

pub returns-then-script-at-clause-value : goal.returns-then-script-at-clause-value
returns-then-script-at-clause-value c =
    let a = c.args in
    step_none _ _ _ (standing a.s a.rig.now a.out.now) (le-leb _ _ c.if-script-at.true)

pub returns-then-is_some-clause-value : goal.returns-then-is_some-clause-value
returns-then-is_some-clause-value c =
    let a = c.args in
    step_refused _ _ _ (standing a.s a.rig.now a.out.now) (lt-leb _ _ c.if-script-at.false) (stopped _ c.is_some.ensures c.if-is_some.true)

pub returns-then-not-has_room-clause-value : goal.returns-then-not-has_room-clause-value
returns-then-not-has_room-clause-value c =
    let a = c.args in
    step_full _ _ _ (standing a.s a.rig.now a.out.now) (lt-leb _ _ c.if-script-at.false) (unrefused _ c.is_some.ensures c.if-is_some.false) c.has_room.ensures
    c.if-not-has_room.true

pub returns-clause-value : goal.returns-clause-value
returns-clause-value c =
    let a = c.args in
    step_goes _ _ _ (standing a.s a.rig.now a.out.now) (lt-leb _ _ c.if-script-at.false) (unrefused _ c.is_some.ensures c.if-is_some.false) c.has_room.ensures
    c.if-not-has_room.false c.part-row.ensures c.run_line-r.ensures.value
