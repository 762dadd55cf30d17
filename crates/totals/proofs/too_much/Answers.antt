use Rattle.std.proofs.Common.{refl}
use Rattle.totals.specs.Column.{passes_in}
use Rattle.totals.proofs.Passing.{passes-more}
use Rattle.totals.proofs.too_much.Goals as goal

pub loop-i-init : goal.loop-i-init
unfolding passes_in
loop-i-init c = refl

pub loop-i-preserved : goal.loop-i-preserved
loop-i-preserved c = passes-more _ _ _ c.loop-i.invariant c.passes_at-over.ensures
