-- The file name behind `rom file` (docs/BENCH.md), up to a comment or the line's end, without the spaces around it.
use Rattle.std.specs.Prelude.{ℕ, Bool, not, List, length}
use Rattle.fields.specs.Bytes.{part_of}
use Rattle.textual.specs.Mark.{closes, parts, first, behind_last}

-- up to the first line end or comment
abbrev pub rest_of_line : List ℕ → List ℕ
rest_of_line t = part_of t 0 (first closes t)

-- a character of a name
abbrev pub inside : ℕ → Bool
inside c = not (parts c)

-- from the first character that is no space up to the last
abbrev pub trimmed : List ℕ → List ℕ
trimmed t =
    let upto = part_of t 0 (behind_last inside t) in
    part_of upto (first inside t) (length upto)

-- the name behind place k of a text
unfoldable pub name_of : List ℕ → ℕ → List ℕ
name_of t k = trimmed (rest_of_line (part_of t k (length t)))
