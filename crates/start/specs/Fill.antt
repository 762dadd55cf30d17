-- The RAM fill (document 01): "1-4,096 bytes, repeated over each bank".
use Rattle.std.specs.Prelude.{ℕ, zero, suc, ◌%◌, List, [], ◌∷◌, ◌++◌, eqb, length, get_or}
use Rattle.common.specs.Pick.{pick}

-- the first n bytes of the fill repeated: byte i is the fill's byte i mod its length
unfoldable pub repeated : List ℕ → ℕ → List ℕ
repeated fill zero = []
repeated fill (suc n) = repeated fill n ++ get_or fill (n % length fill) 0 ∷ []

-- a bank filled whole; an empty fill leaves it
unfoldable pub filled : List ℕ → List ℕ → List ℕ
filled bank fill = pick (eqb (length fill) 0) bank (repeated fill (length bank))
