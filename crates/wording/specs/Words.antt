-- The tables of refusals of documents 01 and 02 in words, in characters' ASCII codes.
use Rattle.std.specs.Prelude.{ℕ, List, [], ◌∷◌}
use Rattle.common.specs.Table.{Entry, at, find}
use Rattle.append.specs.Texts.{codes}

-- the table in its order without its last row, and the rows that document 02 adds
abbrev pub refusals : List (Entry (List ℕ))
refusals =
    at 1 (codes "a work RAM slice is not 65536 bytes")
    ∷ at 2 (codes "the record's length is wrong")
    ∷ at 3 (codes "the ROM is too long")
    ∷ at 4 (codes "the machine breaks its ranges")
    ∷ at 5 (codes "event over 4")
    ∷ at 6 (codes "port over 1, or answer outside $2134-$213F and $2140-$2143")
    ∷ at 7 (codes "the clock is at its end")
    ∷ at 8 (codes "back with no operation kept")
    ∷ at 9 (codes "the newest entry breaks its ranges")
    ∷ at 10 (codes "bit cycles outside 1 to 4096")
    ∷ at 11 (codes "no bench file")
    ∷ at 13 (codes "a total would pass 2^64 - 1")
    ∷ at 14 (codes "more than 256 files")
    ∷ []

-- document 01's last row: 12
abbrev pub page_words : List ℕ
page_words = codes "page over 511"

-- the words of a number
unfoldable pub words_of : ℕ → List ℕ
words_of n = find refusals n page_words
