-- Plain cycles by the public call: event 0, no flags, each on the desk that the one before it left.
use Rattle.std.specs.Prelude.{ℕ, zero, suc, false, List, [], ◌++◌}
use Rattle.bench.specs.Calls.{Desk, CycleOut, cycle_call}
use Rattle.bus.specs.{Access.accesses_of, declared.access.Access.Access}

-- the call that comes next
abbrev pub asked : List ℕ → Desk → CycleOut
asked rom d = cycle_call rom d 0 false false

-- what n of them leave
unfoldable pub calls : List ℕ → ℕ → Desk → Desk
calls rom zero d = d
calls rom (suc n) d = (asked rom (calls rom n d)).desk

-- the accesses that n of them answer, in order
unfoldable pub answered : List ℕ → ℕ → Desk → List Access
answered rom zero d = []
answered rom (suc n) d = answered rom n d ++ accesses_of (asked rom (calls rom n d)).log
