-- The lines of the trace (document 01): "row, kind, refusal or 0, A, B". The lines of the sums: row and sum.
use Rattle.std.specs.Prelude.{ℕ, List, [], ◌∷◌, ◌++◌}
use Rattle.append.specs.Number.{decimal}

-- a number and a space, a number and the line's end
abbrev pub spaced : ℕ → List ℕ
spaced n = decimal n ++ 32 ∷ []

abbrev pub last : ℕ → List ℕ
last n = decimal n ++ 10 ∷ []

-- the text of one line
unfoldable pub line_text : ℕ → ℕ → ℕ → ℕ → ℕ → List ℕ
line_text row kind number a b = spaced row ++ spaced kind ++ spaced number ++ spaced a ++ last b

-- the sum of work RAM after a row
unfoldable pub sum_text : ℕ → ℕ → List ℕ
sum_text row sum = spaced row ++ last sum

-- the only line of a file that cannot be run: a broken file prints `0 0 11 0 0`, bad bit cycles `0 0 10 0 0`
unfoldable pub refused_text : ℕ → List ℕ
refused_text number = line_text 0 0 number 0 0
