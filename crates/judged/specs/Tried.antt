-- What the cores to be rejected are tried on: a machine just given by fresh with a record of two slots, and any bytes of the right sizes.
use Rattle.std.specs.Prelude.{ℕ, suc, ◌*◌, Bool, List, ◌≡◌, length}
use Rattle.bench.specs.Calls.{Desk, desk, cycle_call, empty_bench}
use Rattle.layout.specs.Layout.{entry_size}
use Rattle.wram.specs.{Banks.banks, Sum.ram_sum}

-- how long a record of two slots is
abbrev pub two_slots : ℕ
two_slots = 2 * entry_size

-- the sizes of both banks and of the record
pub record Sizes (l h e : List ℕ) : Type 0 where
  pub low : length l ≡ 65536
  pub high : length h ≡ 65536
  pub entries : length e ≡ two_slots

-- the desk that fresh gives
abbrev pub start : List ℕ → List ℕ → List ℕ → Desk
start l h e = desk (empty_bench two_slots 264 (ram_sum (banks l h))) l h e

-- cycle after cycle, each lent what the last left: what the contract lets any core leave, whatever it remembers of earlier calls
abbrev pub Run : List ℕ → (ℕ → ℕ) → (ℕ → Bool) → (ℕ → Bool) → (ℕ → Desk) → Type 0
Run rom event line timer d = (n : ℕ) → d (suc n) ≡ (cycle_call rom (d n) (event n) (line n) (timer n)).desk
