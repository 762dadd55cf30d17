-- The limit of every total: 2^64 - 1.
use Rattle.std.specs.Prelude.{ℕ, ◌+◌, ◌-◌, ◌^◌, Bool, ltb}

-- a total with so much more would pass it
abbrev pub passes_at : ℕ → ℕ → Bool
passes_at sum x = ltb (2 ^ 64 - 1) (sum + x)
