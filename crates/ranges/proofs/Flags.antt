-- The tests of an image's flags in the order of the table: eight, and then two of each HDMA line.
use Prim.Native.Nat.{ℕ}
use mathlib.Core.Bool.{Bool}
use mathlib.Core.List.{List, [], ◌∷◌}
use lib.Dec.{leb}
use Rattle.layout.specs.Layout as the
use Rattle.layout.specs.Layout.{num}

module _ (e : List ℕ) where
  abbrev one : the.Field → Bool
  one f = leb (num e f) 1

  abbrev pub first_flags : List Bool
  first_flags =
      one (the.connected 0) ∷ one (the.latch 0) ∷ one (the.connected 1) ∷ one (the.latch 1) ∷ one the.nmi ∷ one the.running ∷ one the.pending
      ∷ one the.init ∷ []

  abbrev pub line_flags : ℕ → List Bool
  line_flags i = one (the.transfer i) ∷ one (the.finished i) ∷ []
