-- The sum of all bytes of work RAM, modulo 2^32 (document 02, request 2), and how a sum beside the banks follows them.
use Rattle.std.specs.Prelude.{ℕ, ◌+◌, ◌-◌, ◌%◌, ◌^◌, List, [], ◌∷◌}
use Rattle.wram.specs.Banks.{Banks}

-- the bytes of a bank, added up
unfoldable pub total : List ℕ → ℕ
total [] = 0
total (x ∷ l) = x + total l

-- both banks, modulo 2^32
unfoldable pub ram_sum : Banks → ℕ
ram_sum b = (total b.low + total b.high) % 2 ^ 32

-- a sum that stands beside the banks changes by what theirs changes, so that a false one stays false by the same amount
unfoldable pub follows : ℕ → (before after : Banks) → ℕ
follows sum before after = (sum + ram_sum after + (2 ^ 32 - ram_sum before)) % 2 ^ 32
