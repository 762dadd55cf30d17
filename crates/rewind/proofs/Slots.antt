-- How the record's slots go round: after and before are inverse, and how far one slot stands behind another.
use Prim.Native.Nat.{ℕ, zero, suc, ◌+◌, ◌<◌}
use mathlib.Core.Logic.{◌≢◌, ◌⊎◌, inl, inr}
use mathlib.Core.Path.{◌≡◌}
use native.Mathlib.Decide.{dec_lt}
use native.Mathlib.Omega.{arith}
use borrow.Author.Tests.{lt-ltb, le-ltb, ne_eqb}
use Rattle.ring.specs.Slots.{after, before}

module _ (cap : ℕ) where
  after-step : (i : ℕ) → i + 1 < cap → after cap i ≡ i + 1
  after-step i h = rw (lt-ltb (i + 1) cap h)

  after_wrap : (i : ℕ) → i + 1 ≡ cap → after cap i ≡ 0
  after_wrap i h = rw (le-ltb (i + 1) cap (omega arith))

  before-suc : (i : ℕ) → before cap (suc i) ≡ i
  before-suc i = rw (ne_eqb (suc i) 0 (λ e. omega arith)) (omega arith)

  -- they stay below the capacity
  pub before_lt : (i : ℕ) → i < cap → before cap i < cap
  before_lt zero h = omega arith
  before_lt (suc i) h = rw (before-suc i) (omega arith)

  pub after_lt : (i : ℕ) → i < cap → after cap i < cap
  after_lt i h = elim (dec_lt (i + 1) cap) [ yes l ↦ rw (after-step i l) l | no l ↦ rw (after_wrap i (omega arith)) (omega arith) ]

  pub before-after : (i : ℕ) → i < cap → before cap (after cap i) ≡ i
  before-after i h = elim (dec_lt (i + 1) cap) [ yes l ↦ let e : i + 1 ≡ suc i = omega arith in rw (after-step i l, e) (before-suc i) | no l ↦ rw (after_wrap i (omega arith)) (omega arith) ]

  -- slot m stands d slots behind slot n
  abbrev pub Behind : (n m d : ℕ) → Type 0
  Behind n m d = (m + d ≡ n) ⊎ (m + d ≡ n + cap)

  pub behind-step : (n m d : ℕ) → m < cap → d < cap → Behind n m d → Behind n (before cap m) (suc d)
  behind-step n zero d h k (inl e) = inr (omega arith)
  behind-step n zero d h k (inr e) = absurd (omega arith)
  behind-step n (suc m) d h k (inl e) = inl (rw (before-suc m) (omega arith))
  behind-step n (suc m) d h k (inr e) = inr (rw (before-suc m) (omega arith))

  pub behind_ne : (n m d : ℕ) → 0 < d → d < cap → Behind n m d → m ≢ n
  behind_ne n m d p k (inl e) = omega arith
  behind_ne n m d p k (inr e) = omega arith

  pub behind-cap : (n m : ℕ) → m < cap → n < cap → Behind n m cap → m ≡ n
  behind-cap n m p k (inl e) = omega arith
  behind-cap n m p k (inr e) = omega arith
