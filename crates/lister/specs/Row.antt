-- A row of a script (document 01, "Bench file") as a line of text (docs/BENCH.md), in characters' ASCII codes.
use Rattle.std.specs.Prelude.{ℕ, List, [], ◌∷◌, ◌++◌, eqb}
use Rattle.common.specs.Pick.{pick}
use Rattle.common.specs.Table.{Entry, find, at}
use Rattle.fields.specs.{Bytes.byte_at, Little.field}
use Rattle.append.specs.{Number.hex_byte, Number.decimal, Texts.codes}

-- `read $00:4302`
unfoldable pub read_text : ℕ → ℕ → ℕ → List ℕ
read_text bank low high =
    codes "read $" ++ hex_byte bank ++ codes ":" ++ hex_byte high ++ hex_byte low ++ codes "\n"

-- `write $00:4302 = $10`
unfoldable pub write_text : ℕ → ℕ → ℕ → ℕ → List ℕ
write_text bank low high byte =
    codes "write $" ++ hex_byte bank ++ codes ":" ++ hex_byte high ++ hex_byte low ++ codes " = $" ++ hex_byte byte ++ codes "\n"

-- `answer $2134 = $5A`
unfoldable pub answer_text : ℕ → ℕ → ℕ → List ℕ
answer_text low high byte =
    codes "answer $" ++ hex_byte high ++ hex_byte low ++ codes " = $" ++ hex_byte byte ++ codes "\n"

-- ` $8000`, the end of a pad's line
abbrev pub word_text : ℕ → ℕ → List ℕ
word_text low high = codes " $" ++ hex_byte high ++ hex_byte low ++ codes "\n"

-- the options of a cycles row: an event that is not 0 ..
unfoldable pub event_text : ℕ → List ℕ
event_text e = pick (eqb e 0) [] (codes " event " ++ decimal e)

-- .. line due, timer
unfoldable pub flags_text : ℕ → List ℕ
flags_text f = find (at 1 (codes " line") ∷ at 2 (codes " timer") ∷ at 3 (codes " line timer") ∷ []) f []

-- `cycles 40 event 1 line timer`
unfoldable pub cycles_text : ℕ → ℕ → ℕ → List ℕ
cycles_text n e f = codes "cycles " ++ (decimal n ++ (event_text e ++ (flags_text f ++ codes "\n")))

-- `pad 0 $8000`
unfoldable pub pad_text : ℕ → ℕ → ℕ → List ℕ
pad_text port l h = codes "pad " ++ (decimal port ++ word_text l h)

-- `plug 1 off`
unfoldable pub plug_text : ℕ → ℕ → List ℕ
plug_text port on = codes "plug " ++ (decimal port ++ pick (eqb on 1) (codes " on\n") (codes " off\n"))

-- a line of a word and a number
abbrev pub number_text : List ℕ → ℕ → List ℕ
number_text w n = w ++ (decimal n ++ codes "\n")

-- `back 41`
unfoldable pub back_text : ℕ → List ℕ
back_text n = number_text (codes "back ") n

-- the line of a row, by its kind
abbrev pub texts : List ℕ → List (Entry (List ℕ))
texts b =
    at 1 (cycles_text (field 2 b 1) (byte_at b 3) (byte_at b 4))
    ∷ at 2 (read_text (byte_at b 1) (byte_at b 2) (byte_at b 3))
    ∷ at 3 (write_text (byte_at b 1) (byte_at b 2) (byte_at b 3) (byte_at b 4))
    ∷ at 4 (pad_text (byte_at b 1) (byte_at b 2) (byte_at b 3))
    ∷ at 5 (plug_text (byte_at b 1) (byte_at b 2))
    ∷ at 6 (answer_text (byte_at b 2) (byte_at b 3) (byte_at b 4))
    ∷ at 7 (back_text (field 2 b 1))
    ∷ []

-- nothing for a kind that there is not
unfoldable pub row_text : List ℕ → List ℕ
row_text b = find (texts b) (byte_at b 0) []
