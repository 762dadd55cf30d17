-- A script row (document 01, "Bench file"): 8 bytes, kind first, fields without padding, all other bytes zero.
use Rattle.std.specs.Prelude.{ℕ, ◌+◌, ◌*◌, ◌/◌, ◌%◌, Bool, true, false, ◌&&◌, List, [], ◌∷◌, ◌++◌, length, drop, replicate, leb, eqb}
use mir.Val.{bool_byte}
use Rattle.common.specs.{Pick.pick, Width.Word}
use Rattle.common.specs.Table.{Entry, find, at}
use Rattle.fields.specs.{Little.le, Little.field, Bytes.byte_at, Bytes.part_of}
use Rattle.benchfile.specs.declared.row.Row.{Row}
use Rattle.benchfile.specs.declared.row.Row.TheVariants.{Cycles, Read, Write, Pad, Plug, Answer, Back, Broken}

-- every byte is zero
abbrev pub all_zero : List ℕ → Bool
all_zero [] = true
all_zero (x ∷ l) = eqb x 0 && all_zero l

-- every byte from k on is zero
abbrev pub zeros : List ℕ → ℕ → Bool
zeros b k = all_zero (drop k b)

-- what each kind asks: counts 1 up, flags at most 3, plug's value 0 or 1, answer's first byte 0, other bytes zero
abbrev pub form_table : List ℕ → List (Entry Bool)
form_table b =
    at 1 (leb 1 (field 2 b 1) && leb (byte_at b 4) 3 && zeros b 5)
    ∷ at 2 (zeros b 4)
    ∷ at 3 (zeros b 5)
    ∷ at 4 (zeros b 4)
    ∷ at 5 (leb (byte_at b 2) 1 && zeros b 3)
    ∷ at 6 (eqb (byte_at b 1) 0 && zeros b 5)
    ∷ at 7 (leb 1 (field 2 b 1) && zeros b 3)
    ∷ []

-- a row of 8 bytes that keeps the form of its kind; there is no other kind
unfoldable pub formed_row : List ℕ → Bool
formed_row b = eqb (length b) 8 && find (form_table b) (byte_at b 0) false

-- what each kind says: cycles (count, event, flags: 1 line due, 2 timer), read (bank, address), write (bank, address, byte),
-- pad (port, word), plug (port, value), answer (0, address, byte), back (count)
abbrev pub field_table : List ℕ → List (Entry Row)
field_table b =
    at 1 (Cycles (field 2 b 1) (byte_at b 3) (eqb (byte_at b 4 % 2) 1) (eqb (byte_at b 4 / 2) 1))
    ∷ at 2 (Read (byte_at b 1) (field 2 b 2))
    ∷ at 3 (Write (byte_at b 1) (field 2 b 2) (byte_at b 4))
    ∷ at 4 (Pad (byte_at b 1) (field 2 b 2))
    ∷ at 5 (Plug (byte_at b 1) (eqb (byte_at b 2) 1))
    ∷ at 6 (Answer (field 2 b 2) (byte_at b 4))
    ∷ at 7 (Back (field 2 b 1))
    ∷ []

-- the row that 8 bytes say, if they keep their form
unfoldable pub fields_of : List ℕ → Row
fields_of b = find (field_table b) (byte_at b 0) Broken

-- the row of 8 bytes; broken where they break the form
abbrev pub row_of : List ℕ → Row
row_of b = pick (formed_row b) (fields_of b) Broken

-- the 8 bytes of row i, from 0
abbrev pub row_bytes : List ℕ → ℕ → List ℕ
row_bytes s i = part_of s (i * 8) 8

-- row i of a script; past the last whole row there is none
abbrev pub row_at : List ℕ → ℕ → Row
row_at s i = row_of (row_bytes s i)

-- 1 line due, 2 timer
abbrev pub flags_of : Bool → Bool → ℕ
flags_of due timer = bool_byte due + 2 * bool_byte timer

-- the 8 bytes of a row
unfoldable pub bytes_of : Row → List ℕ
bytes_of (Cycles n event due timer) = 1 ∷ le 2 n ++ event ∷ flags_of due timer ∷ replicate 3 0
bytes_of (Read bank a) = 2 ∷ bank ∷ le 2 a ++ replicate 4 0
bytes_of (Write bank a x) = 3 ∷ bank ∷ le 2 a ++ x ∷ replicate 3 0
bytes_of (Pad port w) = 4 ∷ port ∷ le 2 w ++ replicate 4 0
bytes_of (Plug port on) = 5 ∷ port ∷ bool_byte on ∷ replicate 5 0
bytes_of (Answer a x) = 6 ∷ 0 ∷ le 2 a ++ x ∷ replicate 3 0
bytes_of (Back n) = 7 ∷ le 2 n ++ replicate 5 0
bytes_of Broken = replicate 8 0

-- the words of a row, each in its two bytes
abbrev pub FitRow : Row → Type 0
FitRow (Cycles n event due timer) = Word n
FitRow (Read bank a) = Word a
FitRow (Write bank a x) = Word a
FitRow (Pad port w) = Word w
FitRow (Plug port on) = Unit {0}
FitRow (Answer a x) = Word a
FitRow (Back n) = Word n
FitRow Broken = Unit {0}

-- a row that can stand in a script: counts are 1 up
abbrev pub lawful : Row → Bool
lawful (Cycles n event due timer) = leb 1 n
lawful (Read bank a) = true
lawful (Write bank a x) = true
lawful (Pad port w) = true
lawful (Plug port on) = true
lawful (Answer a x) = true
lawful (Back n) = leb 1 n
lawful Broken = false
