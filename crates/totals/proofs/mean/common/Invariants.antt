use Rattle.std.proofs.Common.{◌≡◌}
use Rattle.totals.specs.Mean.{common_up_to}
use Rattle.totals.proofs.mean.common.Given as goal

abbrev pub invariant-loop-d : goal.invariant-loop-d
invariant-loop-d l = common_up_to l.sum l.files l.d ≡ common_up_to l.sum l.files l.files
