-- A mean is exact and in lowest terms, and of a sum of 0 it is 0/1.
use Prim.Native.Nat.{ℕ, zero, suc, ◌*◌, ◌/◌, ◌%◌, ◌≤◌, ◌<◌, ◌∣◌}
use mathlib.Core.Path.{◌≡◌, refl, sym, ◌∙◌}
use native.Mathlib.Nat.{div-mul_cancel, div_self, dvd_of_mod-eq-zero, eq-one_of_dvd-one, le_of_dvd, mod-eq-zero_of_dvd, mod_self}
use native.Mathlib.Nat.{mul_assoc, mul-dvd-mul_right, mul-le-mul_right, mul_right_comm, pos_of_dvd_of_pos, zero-div, zero-mod, zero-mul}
use native.Mathlib.Omega.{arith}
use borrow.Author.Tests.{eqb-true, ne_eqb}
use lib.Dec.{eqb, eqb-suc-zero}
use Rattle.totals.proofs.{Tests.both, Common.common-positive, Common.common_divides, Common.common-most}
use Rattle.totals.specs.Mean.{common_up_to, mean_of}

-- where d times g is g at the most, d is 1
one_only : (d g : ℕ) → 0 < g → 0 < d * g → d * g ≤ g → d ≡ 1
one_only zero g h p q = absurd (omega (arith, zero-mul g))
one_only (suc zero) g h p q = refl
one_only (suc (suc d)) g h p q = let k : 2 * g ≤ suc (suc d) * g = mul-le-mul_right g (omega arith) in absurd (omega arith)

-- a and b are s and n divided by g, the largest that divides both
module _ (a b g : ℕ) {s n : ℕ} (p : a * g ≡ s) (q : b * g ≡ n) where
  crossed : a * n ≡ s * b
  crossed = rw (sym p, sym q) (sym (mul_assoc a b g) ∙ mul_right_comm a b g)

  lowest : (d : ℕ) → 0 < g → 0 < n → ((e : ℕ) → e ≤ n → 0 < e → s % e ≡ 0 → n % e ≡ 0 → e ≤ g) → d ∣ a → d ∣ b → d ≡ 1
  lowest d h i most x y =
      let ds : d * g ∣ s = rw (sym p) (mul-dvd-mul_right d x g) in
      let dn : d * g ∣ n = rw (sym q) (mul-dvd-mul_right d y g) in
      let some = pos_of_dvd_of_pos dn i in
      one_only d g h some (most (d * g) (le_of_dvd i dn) some (mod-eq-zero_of_dvd (d * g) ds) (mod-eq-zero_of_dvd (d * g) dn))

-- dividing by it leaves no rest
whole : (s n d : ℕ) → let g = common_up_to s n d in (s / g * g ≡ s) × (n / g * g ≡ n)
whole s n d =
    let g = common_up_to s n d in
    let b = both (eqb (s % g) 0) (eqb (n % g) 0) (common_divides s n d) in
    (div-mul_cancel g (dvd_of_mod-eq-zero g (eqb-true (s % g) 0 b.0)), div-mul_cancel g (dvd_of_mod-eq-zero g (eqb-true (n % g) 0 b.1)))

pub mean-exact : (s n : ℕ) → 0 < n → (mean_of s n).over * n ≡ s * (mean_of s n).under
unfolding mean_of
mean-exact s n h =
    let g = common_up_to s n n in
    let w = whole s n n in
    rw (ne_eqb n 0 (λ e. omega arith)) (crossed (s / g) (n / g) g w.0 w.1)

pub mean-lowest : (s n d : ℕ) → d ∣ (mean_of s n).over → d ∣ (mean_of s n).under → d ≡ 1
unfolding mean_of
mean-lowest s zero d x y = eq-one_of_dvd-one y
mean-lowest s (suc n) d x y =
    let g = common_up_to s (suc n) (suc n) in
    let w = whole s (suc n) (suc n) in
    lowest
    (s / g)
    (suc n / g)
    g
    w.0
    w.1
    d
    (common-positive s (suc n) (suc n))
    (omega arith)
    (common-most s (suc n) (suc n))
    (rw (eqb-suc-zero n) at x)
    (rw (eqb-suc-zero n) at y)

pub mean-zero : (n : ℕ) → mean_of 0 n ≡ record { over = 0; under = 1 }
unfolding mean_of common_up_to
mean-zero zero = refl
mean-zero (suc n) = rw (eqb-suc-zero n, zero-mod (suc n), mod_self (suc n)) (λ i. record { over = zero-div (suc n) i; under = div_self {n = suc n} (omega arith) i })
