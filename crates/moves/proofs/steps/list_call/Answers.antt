use Rattle.std.proofs.Common.{rules}
use Rattle.script.proofs.Join.{accepted}
use mathlib.Core.Path.{ap}
use Rattle.append.specs.Lent.{shown}
use Rattle.moves.specs.Steps.{running}
use Rattle.moves.proofs.Join.{list_joined}
use Rattle.moves.proofs.steps.list_call.Goals as goal

pub returns-clause-value : goal.returns-clause-value
returns-clause-value c =
    let a = c.args in
    let noted = rw (accepted c.next_call-s.result.answer.refusal c.is_none.result c.is_none.ensures) at c.note.ensures in
    let made = list_joined _ _ _ _ (running a.w.now a.origins.now) c.next_call-s.ensures.value c.origin_of-here.ensures noted c.origin_at-origin.ensures
    (ap shown c.put_step.ensures) in
    search rules
