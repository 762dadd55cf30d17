use Rattle.std.proofs.Common.{◌≡◌, take}
use Rattle.append.specs.Lent.{putting}
use Rattle.append.proofs.Sheet.put.Given as goal

abbrev pub invariant-loop-byte : goal.invariant-loop-byte
invariant-loop-byte l = l.self ≡ putting l.fn.self (take l.byte-index l.src)
