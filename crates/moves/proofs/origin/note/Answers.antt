use Rattle.moves.specs.Origin.{noted}
use Prim.Native.Nat.{ℕ, ◌≤◌}
use mathlib.Core.Bool.{Bool, true, false}
use mathlib.Core.List.{List}
use mathlib.Core.Path.{◌≡◌, sym}
use lib.ListN.{length, set}
use lib.Seq.{set_out}
use Rattle.moves.proofs.origin.note.Goals as goal

module _ (l : List ℕ) (slot origin : ℕ) {counts : Bool} where
  none : counts ≡ false → l ≡ noted l slot origin counts
  unfolding noted
  none h = rw h

  one : counts ≡ true → set l slot origin ≡ noted l slot origin counts
  unfolding noted
  one h = rw h

  outside : counts ≡ true → length l ≤ slot → l ≡ noted l slot origin counts
  unfolding noted
  outside h k = rw h (sym (set_out _ _ _ k))

pub returns-then-not-counts : goal.returns-then-not-counts
returns-then-not-counts c = none _ _ _ c.if-not-counts.true

pub returns-then-slot-origins : goal.returns-then-slot-origins
returns-then-slot-origins c = one _ _ _ c.if-not-counts.false

pub returns-else-slot-origins : goal.returns-else-slot-origins
returns-else-slot-origins c = outside _ _ _ c.if-not-counts.false c.if-slot-origins.false
