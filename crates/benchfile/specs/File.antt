-- The bench file (document 01, "Bench file"): contents, then the bodies of settings, RAM fill, ROM and script (sections 0 to 3).
use Rattle.std.specs.Prelude.{ℕ, zero, suc, ◌+◌, ◌*◌, ◌/◌, ◌%◌, Bool, true, ◌&&◌, List, [], length, leb, eqb}
use Rattle.common.specs.Pick.{pick}
use Rattle.fields.specs.{Little.field, Bytes.part_of}
use Rattle.benchfile.specs.Row.{formed_row, row_bytes}

-- contents first, a row of 8 bytes for each section: where it starts (4 bytes)
unfoldable pub start_of : List ℕ → ℕ → ℕ
start_of f k = field 4 f (k * 8)

-- and its length (4)
unfoldable pub size_of : List ℕ → ℕ → ℕ
size_of f k = field 4 f (k * 8 + 4)

-- the place behind its last byte
abbrev pub end_of : List ℕ → ℕ → ℕ
end_of f k = start_of f k + size_of f k

-- the body of section k
unfoldable pub body_of : List ℕ → ℕ → List ℕ
body_of f k = part_of f (start_of f k) (size_of f k)

-- section j starts where section k ends
abbrev pub adjoin : List ℕ → ℕ → ℕ → Bool
adjoin f k j = eqb (end_of f k) (start_of f j)

-- bodies follow from 32 without gap, in order, to the end
unfoldable pub chained : List ℕ → Bool
chained f = eqb (start_of f 0) 32 && adjoin f 0 1 && adjoin f 1 2 && adjoin f 2 3 && eqb (end_of f 3) (length f)

-- settings are 2 bytes, the RAM fill 1 to 4,096
unfoldable pub sized : List ℕ → Bool
sized f = eqb (size_of f 0) 2 && leb 1 (size_of f 1) && leb (size_of f 1) 4096

-- the first n rows of a script are well formed
unfoldable pub rows_formed : List ℕ → ℕ → Bool
rows_formed s zero = true
rows_formed s (suc n) = rows_formed s n && formed_row (row_bytes s n)

-- a script is none or more rows of 8 bytes
unfoldable pub script_formed : List ℕ → Bool
script_formed s = eqb (length s % 8) 0 && rows_formed s (length s / 8)

-- a bench file: at least the 32 bytes of the contents, at most 65,536 in all
unfoldable pub sound : List ℕ → Bool
sound f = leb 32 (length f) && leb (length f) 65536 && chained f && sized f && script_formed (body_of f 3)

-- number 11: the bench file breaks its form
abbrev pub file_check : List ℕ → ℕ
file_check f = pick (sound f) 0 11

-- number 11: or the section is over 3
abbrev pub section_number : List ℕ → ℕ → ℕ
section_number f k = pick (leb k 3) (file_check f) 11

-- what section look gives: the body, empty if refused
abbrev pub section_of : List ℕ → ℕ → List ℕ
section_of f k = pick (eqb (section_number f k) 0) (body_of f k) []
