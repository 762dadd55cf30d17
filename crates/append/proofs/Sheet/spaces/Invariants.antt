use Rattle.std.proofs.Common.{◌≡◌, replicate}
use Rattle.append.specs.Lent.{putting}
use Rattle.append.proofs.Sheet.spaces.Given as goal

abbrev pub invariant-loop : goal.invariant-loop
invariant-loop l = l.self ≡ putting l.fn.self (replicate l.counter 32)
