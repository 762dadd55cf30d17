use Rattle.std.proofs.Common.{sym, ◌∙◌}
use Rattle.script.proofs.Join.{accepted}
use Rattle.tally.specs.Run.{tallying}
use Rattle.tally.proofs.Join.{err_number, tally_refused, tally_accepted}
use Rattle.tally.proofs.run.tally_call.Goals.{then-is_none, else-is_none}
use Rattle.tally.proofs.run.tally_call.Goals as goal

pub returns-clause-value : goal.returns-clause-value
returns-clause-value c =
    let a = c.args in
    let none = accepted _ _ c.is_none.ensures in
    elim c.if-is_none.branch [
      | then-is_none w ↦
          rw (c.number_of-t.ensures, w.t-is, w.err-t.ensures.value, err_number w.count_in.result)
          (tally_accepted _ _ _ _ (tallying a.t.now a.rig.now) c.call-answer.ensures.value (sym none ∙ w.if-is_none.true) w.count_in.ensures w.note-t.ensures)
      | else-is_none w ↦
          rw (c.number_of-t.ensures, w.t-is)
          (tally_refused _ _ _ _ (tallying a.t.now a.rig.now) c.call-answer.ensures.value (sym none ∙ w.if-is_none.false))
    ]
