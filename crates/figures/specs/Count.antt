-- The figures of one file: both runs of it, with banks, record, survivors and totals at zeros.
use Rattle.std.specs.Prelude.{ℕ, List, replicate}
use Rattle.tally.specs.File.{FileCount, file_count, halt_of}
use Rattle.figures.specs.declared.count.Counted.{Counted}

-- what is lent
abbrev pub counting : List ℕ → FileCount
counting f =
    file_count f (replicate 65536 0) (replicate 65536 0) (replicate 65536 0) (replicate 8192 0) (replicate 29 0) (replicate 29 0)

-- what is told of it: the refusal of the file or of the row that ended it, or 0, and that row, or 0; both columns
pub record Told : Type 0 where
  pub number : ℕ
  pub row : ℕ
  pub all : List ℕ
  pub alive : List ℕ

abbrev pub told : FileCount → Told
told c = record { number = c.number; row = c.row; all = c.all; alive = c.kept }

-- the same, of what the code has
abbrev pub counted : Counted → Told
counted c = let e = halt_of c.ended in record { number = e.number; row = e.row; all = c.all.counts; alive = c.alive.counts }

-- the figures of a file, as the program counts it
unfoldable pub count_of : List ℕ → Told
count_of f = told (counting f)

-- what stands in for a file that is not opened
abbrev pub no_count : Told
no_count = record { number = 0; row = 0; all = replicate 29 0; alive = replicate 29 0 }
