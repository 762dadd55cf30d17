-- Characters of the text form (docs/BENCH.md), by their ASCII codes.
use Rattle.std.specs.Prelude.{ℕ, ◌+◌, ◌*◌, ◌-◌, Option, Some, None, List, [], ◌∷◌}
use Prim.Native.Char.{code}
use Prim.Native.String.{String, [] as []ˢ, ◌∷◌ as ◌∷ˢ◌}
use Rattle.common.specs.{Pick.pick, Range.within}
use Rattle.common.specs.Table.{Entry, find, at}
use Rattle.reader.specs.declared.sign.Sign.{Sign}
use Rattle.reader.specs.declared.sign.Sign.TheVariants.{LineEnd, Comment, Space, Dollar, Colon, Other}

abbrev pub signs : List (Entry Sign)
signs =
    at (code "\n") LineEnd
    ∷ at (code ";") Comment
    ∷ at (code " ") Space
    ∷ at (code "\t") Space
    ∷ at (code "\r") Space
    ∷ at (code ",") Space
    ∷ at (code "=") Space
    ∷ at (code "$") Dollar
    ∷ at (code ":") Colon
    ∷ []

unfoldable pub sign_of : ℕ → Sign
sign_of c = find signs c Other

-- the value of 0-9, A-Z and a-z in base 36
unfoldable pub digit_of : ℕ → Option ℕ
digit_of c =
    pick (within 48 58 c) (Some (c - 48))
    (pick (within 65 91 c) (Some (c - 55)) (pick (within 97 123 c) (Some (c - 87)) None))

-- a word of small letters, behind those that came to v: each letter is a digit
abbrev letters_of : ℕ → String → ℕ
letters_of v []ˢ = v
letters_of v (c ∷ˢ s) = letters_of (v * 36 + (code c - 87)) s

-- a word of small letters as the number that it is in base 36
abbrev pub base36 : String → ℕ
base36 s = letters_of 0 s
