-- One figure over a whole list of files, in their order: its sum, the largest, and the first file that has it.
use Rattle.std.specs.Prelude.{ℕ, ◌+◌, max, List, [], ◌∷◌, ltb}
use Rattle.common.specs.Pick.{pick}

-- the sum
unfoldable pub sum_of : List ℕ → ℕ
sum_of [] = 0
sum_of (x ∷ xs) = x + sum_of xs

-- the largest, 0 of none
unfoldable pub largest_of : List ℕ → ℕ
largest_of [] = 0
largest_of (x ∷ xs) = max x (largest_of xs)

-- the first file, from 1, that has the largest; 0 of none
unfoldable pub file_of : List ℕ → ℕ
file_of [] = 0
file_of (x ∷ xs) = pick (ltb x (largest_of xs)) (1 + file_of xs) 1
