use Rattle.std.proofs.Common.{◌≡◌}
use Rattle.totals.specs.Column.{passes_in}
use Rattle.totals.proofs.too_much.Given as goal

abbrev pub invariant-loop-i : goal.invariant-loop-i
invariant-loop-i l = l.over ≡ passes_in l.c.sum l.f.counts l.i
