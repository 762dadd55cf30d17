-- What a call leaves, in bytes (docs/PLAYER.md): its number, the machine, both banks, the record, and what it answers beside the number.
use Rattle.std.specs.Prelude.{ℕ, List}
use Rattle.bench.specs.Calls.{Desk, CycleOut}
use Rattle.asbytes.specs.{Answer.answered, Machine.saved}

pub record Crossed : Type 0 where
  pub number : ℕ
  pub machine : List ℕ
  pub low : List ℕ
  pub high : List ℕ
  pub entries : List ℕ
  pub out : List ℕ

-- these of the code's slices
abbrev pub crossed : ℕ → List ℕ → List ℕ → List ℕ → List ℕ → List ℕ → Crossed
crossed n m l h e o = record { number = n; machine = m; low = l; high = h; entries = e; out = o }

-- the machine that a call leaves is laid over the bytes s that it was given
abbrev pub crossing : ℕ → Desk → List ℕ → List ℕ → Crossed
crossing n d s out = crossed n (saved n d.bench s) d.ram.low d.ram.high d.entries out

-- a cycle: held, edge and accesses
abbrev pub cycle_crossed : List ℕ → List ℕ → CycleOut → Crossed
cycle_crossed s out o = crossing o.number o.desk s (answered o.held o.edge o.log out)
