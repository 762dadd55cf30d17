-- Texts: words as the bytes that stand for them, and texts one after the other, each by its number: lines of a section, rows of a script.
use Rattle.std.specs.Prelude.{ℕ, zero, suc, ◌+◌, List, [], ◌∷◌, ◌++◌}
use Prim.Native.Char.{code}
use Prim.Native.String.{String, [] as []ˢ, ◌∷◌ as ◌∷ˢ◌}

-- the characters of a text by their ASCII codes
abbrev pub codes : String → List ℕ
codes []ˢ = []
codes (c ∷ˢ s) = code c ∷ codes s

-- n texts one after the other, by their numbers from k on
unfoldable pub each : (ℕ → List ℕ) → ℕ → ℕ → List ℕ
each f zero k = []
each f (suc n) k = f k ++ each f n (k + 1)
