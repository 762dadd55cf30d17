-- The channels of a mask: the lowest comes first, and behind it those of the mask without it. One test for each mask, computed.
use Prim.Native.Nat.{ℕ, zero, suc, ◌+◌, ◌-◌, ◌<◌}
use mathlib.Core.Bool.{Bool, true, false, not, ◌&&◌}
use mathlib.Core.List.{List, [], ◌∷◌}
use mathlib.Core.Path.{◌≡◌, refl, sym, ap, subst, ◌∙◌}
use native.Mathlib.Omega.{arith}
use borrow.Author.Tests.{eqb-true, eqb-false, eq-eqb}
use lib.Count.{count_trailing_zeros}
use lib.Dec.{eqb}
use Rattle.common.specs.Pick.{pick}
use Rattle.transfer.proofs.BitLaws.{lowest_set}
use Rattle.transfer.specs.Bits.{lowest, clear_bit}
use Rattle.loads.specs.Load.{bit, selected_in, selected}

-- ---- the test

-- the same numbers in the same order
unfoldable same : List ℕ → List ℕ → Bool
same [] [] = true
same [] (y ∷ ys) = false
same (x ∷ xs) [] = false
same (x ∷ xs) (y ∷ ys) = eqb x y && same xs ys

-- the same truth
abbrev alike : Bool → Bool → Bool
alike true b = b
alike false b = not b

-- the mask without its lowest bit has the other bits below n
unfoldable others : ℕ → ℕ → Bool
others m zero = true
others m (suc j) = alike (bit (clear_bit m (lowest m)) j) (pick (eqb j (lowest m)) false (bit m j)) && others m j

unfoldable steps : ℕ → Bool
steps m = same (selected m) (lowest m ∷ selected (clear_bit m (lowest m))) && others m 8

-- k masks from m on
unfoldable every : ℕ → ℕ → Bool
every m zero = true
every m (suc k) = steps m && every (suc m) k

tested : every 1 255 ≡ true
unfolding every steps same others selected_in count_trailing_zeros
tested = refl

-- ---- what it says

left : (a b : Bool) → (a && b) ≡ true → a ≡ true
left true b h = refl
left false b h = h

right : (a b : Bool) → (a && b) ≡ true → b ≡ true
right true b h = h
right false b h = cc

same-is : (xs ys : List ℕ) → same xs ys ≡ true → xs ≡ ys
unfolding same
same-is [] [] h = refl
same-is [] (y ∷ ys) h = cc
same-is (x ∷ xs) [] h = cc
same-is (x ∷ xs) (y ∷ ys) h =
    let a = eqb-true x y (left (eqb x y) (same xs ys) h) in
    let b = same-is xs ys (right (eqb x y) (same xs ys) h) in
    λ i. a i ∷ b i

alike_is : (a b : Bool) → alike a b ≡ true → a ≡ b
alike_is true true h = refl
alike_is true false h = cc
alike_is false true h = cc
alike_is false false h = refl

every-is : (m k i : ℕ) → every m k ≡ true → i < k → steps (m + i) ≡ true
unfolding every
every-is m zero i h l = absurd (omega (arith, l))
every-is m (suc k) zero h l = let e : m + 0 ≡ m = omega arith in ap steps e ∙ left (steps m) (every (suc m) k) h
every-is m (suc k) (suc i) h l =
    let e : m + suc i ≡ suc m + i = omega arith in ap steps e ∙ every-is (suc m) k i (right (steps m) (every (suc m) k) h) (omega (arith, l))

-- bit j of the mask without its lowest
abbrev Bit : ℕ → ℕ → Type 0
Bit m j = bit (clear_bit m (lowest m)) j ≡ pick (eqb j (lowest m)) false (bit m j)

others-is : (m n : ℕ) → others m n ≡ true → (j : ℕ) → j < n → Bit m j
unfolding others
others-is m zero h j l = absurd (omega (arith, l))
others-is m (suc n) h j l =
    go (eqb j n) refl (others-is m n (right (alike (bit (clear_bit m (lowest m)) n) (pick (eqb n (lowest m)) false (bit m n))) (others m n) h))
  where
    now : Bit m n
    now = alike_is (bit (clear_bit m (lowest m)) n) (pick (eqb n (lowest m)) false (bit m n)) (left _ (others m n) h)

    go : (b : Bool) → eqb j n ≡ b → ((i : ℕ) → i < n → Bit m i) → Bit m j
    go true e f = subst (Bit m) (sym (eqb-true j n e)) now
    go false e f = let other = eqb-false j n e in f j (omega (arith, l, other))

module _ (m : ℕ) (some : 0 < m) (byte : m < 256) where
  stepped : steps m ≡ true
  stepped = let e : 1 + (m - 1) ≡ m = omega (arith, some) in ap steps (sym e) ∙ every-is 1 255 (m - 1) tested (omega (arith, some, byte))

  pub selected-steps : selected m ≡ lowest m ∷ selected (clear_bit m (lowest m))
  unfolding steps
  selected-steps = same-is _ _ (left _ (others m 8) stepped)

  pub bit-steps : (j : ℕ) → j < 8 → Bit m j
  unfolding steps
  bit-steps = others-is m 8 (right (same (selected m) (lowest m ∷ selected (clear_bit m (lowest m)))) (others m 8) stepped)

  pub bit-lowest : bit m (lowest m) ≡ true
  bit-lowest = eq-eqb _ _ (lowest_set m some byte)
