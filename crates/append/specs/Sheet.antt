-- A buffer that is filled from the front: its bytes, and the place of the next one.
use Rattle.std.specs.Prelude.{ℕ, ◌+◌, length, set, take, ltb}
use mathlib.Core.List.{List, foldl}
use Rattle.common.specs.Pick.{pick}

pub record Sheet : Type 0 where
  pub text : List ℕ
  pub at : ℕ

-- by its fields
abbrev pub sheet : List ℕ → ℕ → Sheet
sheet l n = record { text = l; at = n }

-- one byte more, where there is room
unfoldable pub push : Sheet → ℕ → Sheet
push s c = pick (ltb s.at (length s.text)) (sheet (set s.text s.at c) (s.at + 1)) s

-- bytes one after the other
unfoldable pub puts : Sheet → List ℕ → Sheet
puts s t = foldl push s t

-- what stands in it so far
abbrev pub shown_of : Sheet → List ℕ
shown_of s = take s.at s.text
