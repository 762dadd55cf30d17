use Rattle.std.proofs.Common.{◌≡◌}
use Rattle.totals.proofs.Placed.{up_to}
use Rattle.totals.proofs.with_file.Given as goal

abbrev pub invariant-loop-i : goal.invariant-loop-i
invariant-loop-i l = l.out ≡ up_to l.c l.file l.f.counts l.i
