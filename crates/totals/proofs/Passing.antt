-- Whether a total passes 2^64 - 1, asked by a difference; and over all places.
use Prim.Native.Nat.{ℕ, zero, suc, ◌+◌, ◌-◌, ◌≤◌, ◌<◌, ◌^◌}
use mathlib.Core.Bool.{Bool, true, false, ◌||◌}
use mathlib.Core.List.{List}
use mathlib.Core.Logic.{⊎_elim}
use mathlib.Core.Path.{◌≡◌, refl}
use native.Mathlib.Nat.{eq-or-lt_of_le, le_of_suc-le-suc}
use native.Mathlib.Numerals.{add-one}
use native.Mathlib.Omega.{arith}
use borrow.Author.Tests.{lt-ltb, le-ltb, ltb-true, ltb-false}
use lib.Dec.{ltb}
use lib.ListN.{get_or}
use Rattle.totals.proofs.Tests.{neither}
use Rattle.totals.specs.{Limit.passes_at, Column.passes_in}

pub by_difference : (m a x : ℕ) → a ≤ m → ltb (m - a) x ≡ ltb m (a + x)
by_difference m a x h = go (ltb m (a + x)) refl where
  go : (b : Bool) → ltb m (a + x) ≡ b → ltb (m - a) x ≡ b
  go true e = lt-ltb (m - a) x (omega (arith, ltb-true m (a + x) e))
  go false e = le-ltb (m - a) x (omega (arith, ltb-false m (a + x) e))

-- where none passes, each place's total fits
pub fits-at : (s x : List ℕ) (n i : ℕ) → passes_in s x n ≡ false → i < n → get_or s i 0 + get_or x i 0 < 2 ^ 64
unfolding passes_in
fits-at s x zero i e h = absurd (omega arith)
fits-at s x (suc n) i e h =
    let t = neither (passes_in s x n) (passes_at (get_or s n 0) (get_or x n 0)) e in
    ⊎_elim
    (λ q. rw q (omega (arith, ltb-false (2 ^ 64 - 1) (get_or s n 0 + get_or x n 0) t.1)))
    (λ l. fits-at s x n i t.0 l)
    (eq-or-lt_of_le (le_of_suc-le-suc h))

-- where each place's total fits, none passes
pub none_passes : (s x : List ℕ) (n : ℕ) → ((i : ℕ) → i < n → get_or s i 0 + get_or x i 0 < 2 ^ 64) → passes_in s x n ≡ false
unfolding passes_in
none_passes s x zero h = refl
none_passes s x (suc n) h = rw (none_passes s x n (λ i l. h i (omega arith))) (le-ltb (2 ^ 64 - 1) (get_or s n 0 + get_or x n 0) (omega (arith, h n (omega arith))))

-- one place more
pub passes-more : (s x : List ℕ) (i : ℕ) {over here : Bool} → over ≡ passes_in s x i → here ≡ passes_at (get_or s i 0) (get_or x i 0)
    → (over || here) ≡ passes_in s x (i + 1)
unfolding passes_in
passes-more s x i e h = rw (add-one i, e, h)
