-- One figure of one column when a file comes: the largest so far, and the file that has it.
use Rattle.std.specs.Prelude.{ℕ, Bool, ◌||◌, eqb, ltb}
use Rattle.common.specs.Pick.{pick}

-- the file takes the place: it is the first file, or its figure is larger than the largest so far
abbrev pub takes : ℕ → ℕ → ℕ → Bool
takes file most x = eqb file 1 || ltb most x

-- the largest with the file
abbrev pub larger_at : ℕ → ℕ → ℕ → ℕ
larger_at file most x = pick (takes file most x) x most

-- the file that has it: with a tie the earlier
abbrev pub file_at : ℕ → ℕ → ℕ → ℕ → ℕ
file_at file holder most x = pick (takes file most x) file holder
