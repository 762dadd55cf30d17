use mathlib.Core.List.{◌++◌}
use mathlib.Core.Path.{◌≡◌}
use lib.ListN.{drop}
use Rattle.start.specs.Fill.{repeated}
use Rattle.start.proofs.fill.fill_bank.Given as goal

abbrev pub invariant-loop-i : goal.invariant-loop-i
invariant-loop-i l = l.bank ≡ repeated l.fill l.i ++ drop l.i l.fn.bank
