-- Which operations of a script survive: those of a row are always its first so many, and a back step strikes the last of them, so that one
-- count a row is enough however many operations an entry of the record stands for.
use Rattle.std.specs.Prelude.{ℕ, zero, suc, ◌+◌, ◌-◌, ◌%◌, ◌^◌, Bool, List, ◌==◌, slice_index, slice_set}
use Rattle.common.specs.Pick.{pick}

-- the latest row, at or before one, with a surviving operation
unfoldable pub latest_of : List ℕ → ℕ → ℕ
latest_of l zero = 0
latest_of l (suc i) = pick (slice_index l (suc i) == 0) (latest_of l i) (suc i)

-- for each row how many of its operations survive, and a row behind which no row has any
pub record Rows : Type 0 where
  pub top : ℕ
  pub alive : List ℕ

-- by its fields
abbrev pub rows : ℕ → List ℕ → Rows
rows top alive = record { top = top; alive = alive }

-- an accepted operation of a row
abbrev pub joined : ℕ → Rows → Rows
joined row t = rows row (slice_set t.alive row ((slice_index t.alive row + 1) % 2 ^ 16))

-- an accepted back step
abbrev pub struck_at : ℕ → Rows → Rows
struck_at row t = rows row (slice_set t.alive row (slice_index t.alive row - 1))

-- an accepted call of a row
unfoldable pub noted : ℕ → Bool → Rows → Rows
noted row back t = pick back (struck_at (latest_of t.alive t.top) t) (joined row t)
