-- What holds where a table of tests gives true: one of its keys is met, and its test holds.
use Prim.Native.Nat.{ℕ}
use mathlib.Core.Bool.{Bool, true, false, false≢true}
use mathlib.Core.List.{List, [], ◌∷◌}
use mathlib.Core.Logic.{◌⊎◌, inl, inr}
use mathlib.Core.Path.{◌≡◌, refl}
use lib.Dec.{eqb}
use borrow.Author.Tests.{eqb-true}
use Rattle.common.specs.Pick.{pick}
use Rattle.common.specs.Table.{Entry, among, find}
use Rattle.common.proofs.TableLaws.{OneOf}

abbrev pub Holds : List (Entry Bool) → ℕ → Type 0
Holds [] k = ⊥
Holds (e ∷ t) k = (OneOf e.keys k × (e.gives ≡ true)) ⊎ Holds t k

-- the test of one key, then the rest
first : {A : Type 0} (a k : ℕ) (x : Bool) → (a ≡ k → A) → (x ≡ true → A) → pick (eqb a k) true x ≡ true → A
first {A} a k x hit miss h = go (eqb a k) refl h
  where
    go : (m : Bool) → eqb a k ≡ m → pick m true x ≡ true → A
    go true p q = hit (eqb-true a k p)
    go false p q = miss q

one_of : (ks : List ℕ) (a : ℕ) → among ks a ≡ true → OneOf ks a
one_of [] a h = absurd (false≢true h)
one_of (k ∷ []) a h = first a k false (λ e. e) (λ n. absurd (false≢true n)) h
one_of (k ∷ j ∷ ks) a h = first a k (among (j ∷ ks) a) (λ e. inl e) (λ n. inr (one_of (j ∷ ks) a n)) h

pub found : (t : List (Entry Bool)) (k : ℕ) → find t k false ≡ true → Holds t k
found [] k h = absurd (false≢true h)
found (e ∷ t) k h = go (among e.keys k) refl h (found t k)
  where
    go : (m : Bool) → among e.keys k ≡ m → pick m e.gives (find t k false) ≡ true
        → (find t k false ≡ true → Holds t k) → Holds (e ∷ t) k
    go true p q rest = inl (one_of e.keys k p, q)
    go false p q rest = inr (rest q)
