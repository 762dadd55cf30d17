-- A column of 29 figures when a file comes, place by place.
use Rattle.std.specs.Prelude.{ℕ, zero, suc, ◌+◌, Bool, false, ◌||◌, List, [], ◌∷◌, ◌++◌, get_or, replicate}
use Rattle.totals.specs.{Limit.passes_at, Place.larger_at, Place.file_at}
use Rattle.totals.specs.declared.Column.{Column}

-- the list of n places whose place i is f i
unfoldable pub placed : (ℕ → ℕ) → ℕ → List ℕ
placed f zero = []
placed f (suc n) = placed f n ++ f n ∷ []

-- some of the first n totals would pass 2^64 - 1
unfoldable pub passes_in : List ℕ → List ℕ → ℕ → Bool
passes_in sum figures zero = false
passes_in sum figures (suc n) = passes_in sum figures n || passes_at (get_or sum n 0) (get_or figures n 0)

-- some total would pass 2^64 - 1
abbrev pub passes : List ℕ → List ℕ → Bool
passes sum figures = passes_in sum figures 29

-- at each place: the sum with the file's figure added
abbrev pub plus_all : Column → List ℕ → ℕ → ℕ
plus_all c figures i = get_or c.sum i 0 + get_or figures i 0

-- at each place: the largest with the file
abbrev pub largest_all : Column → ℕ → List ℕ → ℕ → ℕ
largest_all c number figures i = larger_at number (get_or c.most i 0) (get_or figures i 0)

-- at each place: the file that has the largest
abbrev pub file_all : Column → ℕ → List ℕ → ℕ → ℕ
file_all c number figures i = file_at number (get_or c.file i 0) (get_or c.most i 0) (get_or figures i 0)

-- a column of no files
abbrev pub no_column : Column
no_column = record { sum = replicate 29 0; most = replicate 29 0; file = replicate 29 0 }

-- the column with the file of that number
unfoldable pub column_with : Column → ℕ → List ℕ → Column
column_with c number figures =
    record { sum = placed (plus_all c figures) 29; most = placed (largest_all c number figures) 29; file = placed (file_all c number figures) 29 }
