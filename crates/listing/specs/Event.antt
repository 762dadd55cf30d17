-- The lines that are about a whole row (docs/MOVES.md): cycles held, steps taken back, a refusal (document 01's table) in words.
use Rattle.std.specs.Prelude.{ℕ, ◌/◌, ◌%◌, List, [], ◌++◌, eqb, ltb}
use Rattle.common.specs.Pick.{pick}
use Rattle.append.specs.{Number.decimal, Texts.codes}
use Rattle.wording.specs.Words.{words_of}
use Rattle.listing.specs.Line.{head_text}

-- `CPU     held 8 of 40 cycles`, where every byte is looked at
unfoldable pub held_text : ℕ → ℕ → ℕ → ℕ → ℕ → List ℕ
held_text row clock only held count =
    pick (eqb only 131072)
    (head_text row clock
    ++ (codes "CPU     held "
    ++ (decimal held ++ (codes " of " ++ (decimal count ++ codes " cycles\n")))))
    []

-- `before row 8`, `after cycle 3 of row 8`: a row and how many of its cycles are done, as one number
unfoldable pub origin_text : ℕ → List ℕ
origin_text v =
    pick (eqb (v % 65536) 0) (codes "before row " ++ decimal (v / 65536))
    (codes "after cycle " ++ (decimal (v % 65536) ++ (codes " of row " ++ decimal (v / 65536))))

-- `back    41 of 41 steps, to before row 8`; nothing where no step was accepted
unfoldable pub back_text : ℕ → ℕ → ℕ → ℕ → ℕ → List ℕ
back_text row clock steps count origin =
    pick (eqb steps 0) []
    (head_text row clock
    ++ (codes "back    "
    ++ (decimal steps
    ++ (codes " of "
    ++ (decimal count ++ (codes " steps, to " ++ (origin_text origin ++ codes "\n")))))))

-- `refusal 8: back with no operation kept`; nothing for an accepted row
unfoldable pub refused_text : ℕ → ℕ → ℕ → List ℕ
refused_text row clock number =
    pick (eqb number 0) []
    (head_text row clock
    ++ (codes "refusal "
    ++ (decimal number ++ (codes ": " ++ (words_of number ++ codes "\n")))))

-- a cycle of a row that is refused, or is the last of its count; nothing after any other
unfoldable pub end_text : ℕ → ℕ → ℕ → ℕ → ℕ → ℕ → ℕ → List ℕ
end_text row clock only number held done count =
    pick (eqb number 0) (pick (ltb done count) [] (held_text row clock only held count)) (refused_text row clock number)
