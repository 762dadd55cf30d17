-- Characters that part a text (docs/BENCH.md) into lines and words, and where they stand.
use Rattle.std.specs.Prelude.{ℕ, ◌-◌, Bool, true, false, List, length, position, reverse, unwrap_or}
use Rattle.reader.specs.Letter.{sign_of}
use Rattle.reader.specs.declared.sign.Sign.{Sign}
use Rattle.reader.specs.declared.sign.Sign.TheVariants.{LineEnd, Comment, Space}

abbrev pub is_end : Sign → Bool
is_end LineEnd = true
is_end _ = false

abbrev pub is_close : Sign → Bool
is_close LineEnd = true
is_close Comment = true
is_close _ = false

abbrev pub is_part : Sign → Bool
is_part LineEnd = true
is_part Comment = true
is_part Space = true
is_part _ = false

-- a line's end
unfoldable pub ends_line : ℕ → Bool
ends_line c = is_end (sign_of c)

-- or the start of a comment
unfoldable pub closes : ℕ → Bool
closes c = is_close (sign_of c)

-- or a space
unfoldable pub parts : ℕ → Bool
parts c = is_part (sign_of c)

-- the place of the first character that passes a test; the text's end, if none does
abbrev pub first : (ℕ → Bool) → List ℕ → ℕ
first p t = unwrap_or (position p t) (length t)

-- the place behind the last character that passes; the text's start, if none does
abbrev pub behind_last : (ℕ → Bool) → List ℕ → ℕ
behind_last p t = length t - first p (reverse t)
