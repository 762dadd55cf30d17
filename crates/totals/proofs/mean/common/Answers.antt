use Rattle.std.proofs.Common.{◌≡◌, ◌∙◌, sym, ap, arith}
use Rattle.totals.specs.Mean.{common_up_to}
use Rattle.totals.proofs.Common.{common-here, common-below}
use Rattle.totals.proofs.mean.common.Goals as goal

pub returns-then-sum-d : goal.returns-then-sum-d
returns-then-sum-d c = common-here _ _ _ c.loop-d-test.true c.if-sum-d.true ∙ c.loop-d.invariant

pub loop-d-preserved : goal.loop-d-preserved
loop-d-preserved c = common-below _ _ _ c.loop-d-test.true c.if-sum-d.false ∙ c.loop-d.invariant

pub returns : goal.returns
unfolding common_up_to
returns c = let z : c.loop-d.d ≡ 0 = omega arith in sym (ap (common_up_to _ _) z) ∙ c.loop-d.invariant
