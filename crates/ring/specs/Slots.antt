-- The record's slots (document 01, "Record and machine image"): they go round, and kept rises by 1 up to the capacity.
use Rattle.std.specs.Prelude.{ℕ, ◌+◌, ◌-◌, min, List, eqb, ltb}
use Rattle.common.specs.Pick.{pick}
use Rattle.entry.specs.Entry.{written}
use Rattle.layout.specs.Layout.{capacity}
use Rattle.state.specs.declared.Machine.{Machine}
use Rattle.ring.specs.declared.Bench.{Bench}
use Rattle.wram.specs.Olds.{Olds}

-- the slot after a slot, of so many
abbrev pub after : ℕ → ℕ → ℕ
after cap slot = pick (ltb (slot + 1) cap) (slot + 1) 0

-- the slot before it
abbrev pub before : ℕ → ℕ → ℕ
before cap slot = pick (eqb slot 0) (cap - 1) (slot - 1)

-- a machine with the record's counts and the sum of work RAM beside it
abbrev pub bench : Machine → (slot kept length sum : ℕ) → Bench
bench m slot kept length sum = record { machine = m; slot = slot; kept = kept; length = length; sum = sum }

-- the machine with its counts, and the record
pub record Noted : Type 0 where
  pub bench : Bench
  pub entries : List ℕ

abbrev pub noting : Bench → List ℕ → Noted
noting b e = record { bench = b; entries = e }

-- an accepted operation writes one entry at the next slot: the machine before it and the bytes that it overwrote; the sum is the one after it
unfoldable pub noted : Bench → List ℕ → Machine → Olds → (sum : ℕ) → Noted
noted b e next olds sum =
    noting (bench next (after (capacity b.length) b.slot) (min (b.kept + 1) (capacity b.length)) b.length sum) (written e b.slot b.machine olds)
