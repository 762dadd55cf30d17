-- One figure as the files come, against its definitions over the whole list.
use Prim.Native.Nat.{ℕ, ◌+◌, max, ◌<◌}
use mathlib.Core.Bool.{Bool, true, false}
use mathlib.Core.List.{List, [], ◌∷◌}
use mathlib.Core.Path.{◌≡◌, refl, ◌∙◌}
use native.Mathlib.Nat.{add_assoc, add-zero, max-zero, zero-add}
use native.Mathlib.Omega.{arith}
use borrow.Author.Tests.{ne_eqb, lt-ltb, le-ltb, ltb-true, ltb-false}
use lib.Dec.{ltb}
use Rattle.common.proofs.TableLaws.{pick_case, pick-map}
use Rattle.common.specs.Pick.{pick}
use Rattle.totals.specs.Place.{larger_at, file_at}
use Rattle.totals.specs.Over.{sum_of, largest_of, file_of}

-- one figure of a column
pub record Spot : Type 0 where
  pub sum : ℕ
  pub most : ℕ
  pub file : ℕ

-- the figure with one file more, of that number
abbrev pub step : ℕ → Spot → ℕ → Spot
step number p x = record { sum = p.sum + x; most = larger_at number p.most x; file = file_at number p.file p.most x }

-- after n files, the figures of more
abbrev pub steps : ℕ → Spot → List ℕ → Spot
steps n p [] = p
steps n p (x ∷ xs) = steps (n + 1) (step (n + 1) p x) xs

-- the figures of a whole list of files
abbrev pub whole : List ℕ → Spot
whole xs = record { sum = sum_of xs; most = largest_of xs; file = file_of xs }

-- the next file is x; l and f are the largest of those after it and the first that has it
module _ (n m k x l f : ℕ) where
  next-most : max (pick (ltb m x) x m) l ≡ max m (max x l)
  next-most = pick_case (λ (y : ℕ). max y l ≡ max m (max x l)) (ltb m x) (λ e. omega (arith, ltb-true m x e)) (λ e. omega (arith, ltb-false m x e))

  next-file : pick (ltb (pick (ltb m x) x m) l) (n + 1 + f) (pick (ltb m x) (n + 1) k) ≡ pick (ltb m (max x l)) (n + pick (ltb x l) (1 + f) 1) k
  next-file = go (ltb m x) refl where
    go : (b : Bool) → ltb m x ≡ b → pick (ltb (pick b x m) l) (n + 1 + f) (pick b (n + 1) k) ≡ pick (ltb m (max x l)) (n + pick (ltb x l) (1 + f) 1) k
    go true e = rw (lt-ltb m (max x l) (omega (arith, ltb-true m x e)), pick-map (λ (y : ℕ). n + y) (ltb x l) (1 + f) 1, add_assoc n 1 f)
    go false e =
        let under = ltb-false m x e in
        pick_case
        (λ (y : ℕ). y ≡ pick (ltb m (max x l)) (n + pick (ltb x l) (1 + f) 1) k)
        (ltb m l)
        (λ h. let over = ltb-true m l h in rw (lt-ltb m (max x l) (omega arith), lt-ltb x l (omega arith)) (add_assoc n 1 f))
        (λ h. let over = ltb-false m l h in rw (le-ltb m (max x l) (omega arith)))

-- after a first file: the figures of those before, and of more
pub steps-are : (n : ℕ) (p : Spot) (xs : List ℕ) → 0 < n
    → steps n p xs ≡ record { sum = p.sum + sum_of xs; most = max p.most (largest_of xs); file = pick (ltb p.most (largest_of xs)) (n + file_of xs) p.file }
unfolding sum_of largest_of file_of
steps-are n p [] h = rw (le-ltb p.most 0 (omega arith), add-zero, max-zero)
steps-are n p (x ∷ xs) h =
    steps-are (n + 1) (step (n + 1) p x) xs (omega arith)
    ∙ rw (ne_eqb (n + 1) 1 (λ e. omega arith)) (λ i. record {
      sum = add_assoc p.sum x (sum_of xs) i;
      most = next-most n p.most p.file x (largest_of xs) (file_of xs) i;
      file = next-file n p.most p.file x (largest_of xs) (file_of xs) i;
    })

-- from no files on
pub steps_of : (xs : List ℕ) → steps 0 (record { sum = 0; most = 0; file = 0 }) xs ≡ whole xs
unfolding sum_of largest_of file_of
steps_of [] = refl
steps_of (x ∷ xs) = steps-are 1 (record { sum = 0 + x; most = x; file = 1 }) xs (omega arith) ∙ rw (zero-add x)
