-- Two wrong answers each for `add` and `mean` that their contracts rule out; and two right ones coincide.
use Prim.Native.Nat.{ℕ, ◌-◌, ◌<◌, ◌^◌}
use mathlib.Core.List.{List}
use mathlib.Core.Logic.{◌≢◌}
use mathlib.Core.Path.{◌≡◌, sym, ap, ◌∙◌, ◌∙⁻¹◌}
use native.Mathlib.Omega.{arith}
use lib.ListN.{get_or}
use Rattle.totals.proofs.{Passing.fits-at, Folders.accepted}
use Rattle.totals.specs.{Folder.Added, Folder.add_call, Mean.common_up_to, Mean.mean_of}
use Rattle.totals.specs.declared.{folder.Folder.Folder, mean.Fraction.Fraction}

module _ (f : Folder) (all alive : List ℕ) {r : Added} (k : r ≡ add_call f all alive) where
  -- 1 added to 2^64 - 1 and accepted
  pub add_past_the_last : (i : ℕ) → i < 29 → get_or f.all.sum i 0 ≡ 2 ^ 64 - 1 → get_or all i 0 ≡ 1 → r.number ≢ 0
  unfolding add_call
  add_past_the_last i h s x z =
      omega (arith, fits-at f.all.sum all 29 i (accepted f all alive (sym (ap (λ (o : Added). o.number) k) ∙ z)).fits h)

  -- file 257 accepted
  pub add_257 : f.files ≡ 256 → r.number ≢ 0
  unfolding add_call
  add_257 n z = omega (arith, (accepted f all alive (sym (ap (λ (o : Added). o.number) k) ∙ z)).room)

  pub add_coincides : {r' : Added} → r' ≡ add_call f all alive → r ≡ r'
  add_coincides q = k ∙⁻¹ q

-- 2 over 4 files as 2/4
pub mean_not_lowest : {r : Fraction} → r ≡ mean_of 2 4 → r.over ≢ 2
unfolding mean_of common_up_to
mean_not_lowest k z = omega (arith, sym (ap (λ (o : Fraction). o.over) k) ∙ z)

-- 0 over 2 files as 0/2
pub mean_nothing_over_2 : {r : Fraction} → r ≡ mean_of 0 2 → r.under ≢ 2
unfolding mean_of common_up_to
mean_nothing_over_2 k z = omega (arith, sym (ap (λ (o : Fraction). o.under) k) ∙ z)

pub mean_coincides : (s n : ℕ) {r r' : Fraction} → r ≡ mean_of s n → r' ≡ mean_of s n → r ≡ r'
mean_coincides s n p q = p ∙⁻¹ q
