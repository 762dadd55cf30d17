-- The rows that are one call; and a flag as a number counts one.
use mir.Val.{bool_byte}
use Rattle.std.proofs.Common.{◌≡◌, ℕ, ◌+◌, ◌%◌, ◌^◌, ◌<◌, Bool, true, false, List, [], ◌∷◌, refl, arith}
use Rattle.walk.specs.Stand.{up}

-- every variant but `Cycles` and `Back`, by its place in the enum
abbrev pub others : List ℕ
others = 1 ∷ 2 ∷ 3 ∷ 4 ∷ 5 ∷ 7 ∷ []

pub up_by : (n : ℕ) (b : Bool) → n < 2 ^ 16 → (n + bool_byte b) % 2 ^ 16 ≡ up n b
up_by n true h = refl
up_by n false h = omega (arith, h)
