-- The bytes of a fill or a ROM as text (docs/BENCH.md), 16 to a line.
use Rattle.std.specs.Prelude.{ℕ, ◌+◌, ◌*◌, ◌/◌, List, [], ◌∷◌, ◌++◌, length}
use Rattle.fields.specs.Bytes.{part_of}
use Rattle.append.specs.{Number.hexes, Texts.codes, Texts.each}

-- ` $5A` for each byte
abbrev pub bytes_text : List ℕ → List ℕ
bytes_text = hexes (codes " $")

-- the word, the bytes, a line feed; no bytes, no line
unfoldable pub line_text : List ℕ → List ℕ → List ℕ
line_text w [] = []
line_text w (x ∷ l) = w ++ (bytes_text (x ∷ l) ++ codes "\n")

-- n lines from line k on
abbrev pub lines_from : List ℕ → List ℕ → ℕ → ℕ → List ℕ
lines_from w l = each (λ (k : ℕ). line_text w (part_of l (k * 16) 16))

-- all bytes of a section
unfoldable pub lines_text : List ℕ → List ℕ → List ℕ
lines_text w l = lines_from w l (length l / 16 + 1) 0
