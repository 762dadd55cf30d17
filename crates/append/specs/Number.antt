-- Numbers as text, in characters' ASCII codes: in decimal for the lines of document 01, in base 16 for addresses and bytes (docs/BENCH.md).
use Rattle.std.specs.Prelude.{ℕ, zero, suc, ◌+◌, ◌-◌, ◌/◌, ◌%◌, ltb, length, replicate}
use mathlib.Core.List.{List, [], ◌∷◌, ◌++◌, flat_map}
use Rattle.common.specs.Pick.{pick}

-- the digits of a number in decimal, the most significant first and no zero in front; k digits are room enough
unfoldable pub decimal_in : ℕ → ℕ → List ℕ
decimal_in zero n = []
decimal_in (suc k) n = pick (ltb n 10) ((48 + n) ∷ []) (decimal_in k (n / 10) ++ (48 + n % 10) ∷ [])

-- a number of 64 bits has at most 20 digits
unfoldable pub decimal : ℕ → List ℕ
decimal n = decimal_in 20 n

-- a number in a column w wide, spaces in front; a longer one takes what it needs
unfoldable pub padded : ℕ → ℕ → List ℕ
padded w n = replicate (w - length (decimal n)) 32 ++ decimal n

-- the sign of a digit in base 16: 0 to 9, A to F; of a larger number, of its last digit
unfoldable pub glyph_of : ℕ → ℕ
glyph_of x = pick (ltb (x % 16) 10) (x % 16 + 48) (x % 16 + 55)

-- a byte: two digits
abbrev pub hex_byte : ℕ → List ℕ
hex_byte x = glyph_of (x / 16) ∷ glyph_of x ∷ []

-- a word: four
abbrev pub hex_word : ℕ → List ℕ
hex_word x = hex_byte (x / 256) ++ hex_byte (x % 256)

-- bytes, each behind w
abbrev pub hexes : List ℕ → List ℕ → List ℕ
hexes w = flat_map (λ x. w ++ hex_byte x)
