use Rattle.std.proofs.Common.{◌≡◌, ℕ, zero, suc, ◌-◌, ◌<◌, ◌≢◌, List, get_or, sym, ◌∙◌, arith, eq-eqb, ne_eqb}
use Rattle.tally.specs.Alive.{latest_of}
use Rattle.tally.proofs.alive.latest.Goals as goal

module _ (l : List ℕ) where
  found : (i : ℕ) {n : ℕ} → 0 < i → n ≡ get_or l i 0 → n ≢ 0 → i ≡ latest_of l i
  unfolding latest_of
  found zero h e k = absurd (omega arith)
  found (suc i) h e k = rw (ne_eqb (get_or l (suc i) 0) 0 (λ z. k (e ∙ z)))

  passed : (i : ℕ) {n : ℕ} → 0 < i → n ≡ get_or l i 0 → n ≡ 0 → latest_of l i ≡ latest_of l (i - 1)
  unfolding latest_of
  passed zero h e k = absurd (omega arith)
  passed (suc i) h e k = let p : suc i - 1 ≡ i = omega arith in rw (eq-eqb (get_or l (suc i) 0) 0 (sym e ∙ k), p)

  first : (i : ℕ) → i ≡ 0 → 0 ≡ latest_of l i
  unfolding latest_of
  first i e = rw e

pub returns-then-alive_at-ne0 : goal.returns-then-alive_at-ne0
returns-then-alive_at-ne0 c =
    found _ _ c.loop-i-test.true c.alive_at.ensures c.if-alive_at-ne0.true ∙ sym c.loop-i.invariant

pub loop-i-preserved : goal.loop-i-preserved
loop-i-preserved c =
    c.loop-i.invariant ∙ passed _ _ c.loop-i-test.true c.alive_at.ensures c.if-alive_at-ne0.false

pub returns : goal.returns
returns c = first _ _ (omega (arith, c.loop-i-test.false)) ∙ sym c.loop-i.invariant
