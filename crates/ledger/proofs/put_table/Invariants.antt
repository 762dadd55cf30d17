use Rattle.std.proofs.Common.{◌≡◌}
use Rattle.append.specs.Lent.{putting}
use Rattle.append.specs.Texts.{each}
use Rattle.ledger.specs.Table.{both_text}
use Rattle.ledger.proofs.put_table.Given as goal

abbrev pub invariant-loop-i : goal.invariant-loop-i
invariant-loop-i l = l.out ≡ putting l.fn.out (each (both_text l.f) l.i 0)
