-- A page of work RAM (document 01, page look) as a hex dump (docs/BENCH.md), in characters' ASCII codes.
use Rattle.std.specs.Prelude.{ℕ, ◌+◌, ◌*◌, ◌/◌, ◌%◌}
use Prim.Native.Char.{code}
use mathlib.Core.List.{List, [], ◌∷◌, ◌++◌, flat_map}
use Rattle.common.specs.{Pick.pick, Range.within}
use Rattle.fields.specs.Bytes.{part_of}
use Rattle.append.specs.Number.{glyph_of, hex_byte, hexes}
use Rattle.append.specs.Texts.{codes, each}

-- a printable character of ASCII as it is, any other byte as `.`
unfoldable pub ascii_of : ℕ → ℕ
ascii_of x = pick (within 32 127 x) x (code ".")

-- `7E:1230 `: bank, the page's two digits, the line's digit and 0; pages from 256 on are in bank $7F
abbrev pub head_text : ℕ → ℕ → List ℕ
head_text p k = codes "7" ++ glyph_of (p / 256 % 2 + 14) ∷ codes ":" ++ hex_byte (p % 256) ++ glyph_of k ∷ codes "0 "

-- ` 5A` for each byte
abbrev pub bytes_text : List ℕ → List ℕ
bytes_text = hexes (codes " ")

-- bytes as characters
abbrev pub signs_text : List ℕ → List ℕ
signs_text = flat_map (λ x. ascii_of x ∷ [])

-- the place, eight bytes, a gap, eight bytes, and all of them as characters between bars
unfoldable pub line_text : ℕ → ℕ → List ℕ → List ℕ
line_text p k s =
    head_text p k
    ++ (bytes_text (part_of s 0 8)
    ++ (codes " " ++ (bytes_text (part_of s 8 8) ++ (codes "  |" ++ (signs_text s ++ codes "|\n")))))

-- page p with bytes s: 16 lines of 16 bytes
unfoldable pub page_text : ℕ → List ℕ → List ℕ
page_text p s = each (λ (k : ℕ). line_text p k (part_of s (k * 16) 16)) 16 0
