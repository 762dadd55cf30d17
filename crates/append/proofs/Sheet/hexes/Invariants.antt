use Rattle.std.proofs.Common.{◌≡◌, take}
use Rattle.append.specs.Lent.{putting}
use Rattle.append.specs.Number.{hexes}
use Rattle.append.proofs.Sheet.hexes.Given as goal

abbrev pub invariant-loop-x : goal.invariant-loop-x
invariant-loop-x l = l.self ≡ putting l.fn.self (hexes l.before (take l.x-index l.s))
