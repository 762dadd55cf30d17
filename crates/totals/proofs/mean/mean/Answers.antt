use Rattle.std.proofs.Common.{eq-eqb, ne_eqb}
use Rattle.totals.specs.Mean.{mean_of}
use Rattle.totals.proofs.Common.{common-positive}
use Rattle.totals.proofs.mean.mean.Goals as goal

pub returns-then-files-eq0 : goal.returns-then-files-eq0
unfolding mean_of
returns-then-files-eq0 c = rw (eq-eqb _ 0 c.if-files-eq0.true)

pub nonzero_div-result : goal.nonzero_div-result
nonzero_div-result c = rw c.common-d.ensures (common-positive _ _ _)

pub nonzero_div-result-2 : goal.nonzero_div-result-2
nonzero_div-result-2 c = rw c.common-d.ensures (common-positive _ _ _)

pub returns : goal.returns
unfolding mean_of
returns c = rw (ne_eqb _ 0 c.if-files-eq0.false, c.common-d.ensures)
