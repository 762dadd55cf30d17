use Rattle.std.proofs.Common.{◌≡◌}
use Rattle.append.specs.Lent.{putting}
use Rattle.lister.specs.List.{rows_text}
use Rattle.lister.proofs.list.rows.Given as goal

abbrev pub invariant-loop-i : goal.invariant-loop-i
invariant-loop-i l = l.out ≡ putting l.fn.out (rows_text l.s l.i 0)
