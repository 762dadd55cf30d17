-- The largest number that divides both: it does, and no larger one up to the limit does.
use Prim.Native.Nat.{ℕ, zero, suc, ◌-◌, ◌%◌, ◌≤◌, ◌<◌}
use mathlib.Core.Bool.{true, false}
use mathlib.Core.Path.{◌≡◌, refl, sym, ap, ◌∙◌}
use native.Mathlib.Nat.{mod-one}
use native.Mathlib.Numerals.{sub-one}
use native.Mathlib.Omega.{arith}
use borrow.Author.Tests.{eq-eqb}
use Rattle.common.proofs.TableLaws.{pick_elim, pick_case}
use Rattle.totals.proofs.Tests.{clash}
use Rattle.totals.specs.Mean.{divides_both, common_up_to}

module _ (s n : ℕ) where
  divides_both_lem : (d : ℕ) → s % d ≡ 0 → n % d ≡ 0 → divides_both s n d ≡ true
  divides_both_lem d p q = rw (eq-eqb (s % d) 0 p) (eq-eqb (n % d) 0 q)

  pub common-positive : (d : ℕ) → 0 < common_up_to s n d
  unfolding common_up_to
  common-positive zero = omega arith
  common-positive (suc d) = pick_elim (λ (x : ℕ). 0 < x) (divides_both s n (suc d)) (omega arith) (common-positive d)

  pub common_divides : (d : ℕ) → divides_both s n (common_up_to s n d) ≡ true
  unfolding common_up_to
  common_divides zero = divides_both_lem 1 (mod-one s) (mod-one n)
  common_divides (suc d) = pick_case (λ (x : ℕ). divides_both s n x ≡ true) (divides_both s n (suc d)) (λ e. e) (λ e. common_divides d)

  pub common-most : (d e : ℕ) → e ≤ d → 0 < e → s % e ≡ 0 → n % e ≡ 0 → e ≤ common_up_to s n d
  unfolding common_up_to
  common-most zero e l h p q = absurd (omega arith)
  common-most (suc d) e l h p q =
      let other : divides_both s n (suc d) ≡ false → e ≡ suc d → ⊥ = λ f k. clash (sym (divides_both_lem e p q) ∙ ap (divides_both s n) k ∙ f) in
      pick_case (λ (x : ℕ). e ≤ x) (divides_both s n (suc d)) (λ f. l) (λ f. common-most d e (omega (arith, other f)) h p q)

  -- from d down: d itself where it divides both, else as from the one below
  pub common-here : (d : ℕ) → 0 < d → divides_both s n d ≡ true → d ≡ common_up_to s n d
  unfolding common_up_to
  common-here zero h e = absurd (omega arith)
  common-here (suc d) h e = rw e refl

  pub common-below : (d : ℕ) → 0 < d → divides_both s n d ≡ false → common_up_to s n (d - 1) ≡ common_up_to s n d
  unfolding common_up_to
  common-below zero h e = absurd (omega arith)
  common-below (suc d) h e = rw e (ap (common_up_to s n) (sub-one (suc d)))
