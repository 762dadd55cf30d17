use borrow.Author.Tests.{eq-eqb, ne_eqb}
use Rattle.asbytes.proofs.{Join.saved-by, Join.left_as}
use Rattle.asbytes.proofs.bytes.save.Goals as goal

pub returns-then-number-eq0 : goal.returns-then-number-eq0
returns-then-number-eq0 c = saved-by c.args.s.now _ _ (eq-eqb _ _ c.if-number-eq0.true) c.store.ensures

pub returns-else-number-eq0 : goal.returns-else-number-eq0
returns-else-number-eq0 c = left_as _ _ c.args.s.now (ne_eqb _ _ c.if-number-eq0.false)
