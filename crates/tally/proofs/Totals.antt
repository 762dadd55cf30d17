-- Five totals raised one after the other are raised at once: no two are the same, and none passes 2^64 - 1.
use Rattle.std.proofs.Common.{◌≡◌, ℕ, ◌+◌, ◌-◌, ◌%◌, ◌^◌, Bool, true, false, ◌||◌, ◌≢◌, List, get_or, sym, refl, ap, ◌∙◌, arith, get_or-set_other, ltb-false}
use Rattle.totals.proofs.Tests.{neither}
use Rattle.tally.specs.Share.{more, wrapped, passes, passing, raised, counted, count_call}
use Rattle.tally.specs.declared.share.Share.{Share}

-- a total that has not changed and does not pass is not cut
exact : (i x : ℕ) (l l₀ : List ℕ) → get_or l i 0 ≡ get_or l₀ i 0 → passes i x l₀ ≡ false → wrapped i x l ≡ more i x l
exact i x l l₀ e h =
    let k = ltb-false (2 ^ 64 - 1) (get_or l₀ i 0 + x) h in
    let small : (x + get_or l i 0) % 2 ^ 64 ≡ x + get_or l i 0 = omega (arith, e, k) in
    rw small

-- a total raised leaves the others
other : (i j x : ℕ) {l : List ℕ} (m : List ℕ) → l ≡ more j x m → i ≢ j → get_or l i 0 ≡ get_or m i 0
other i j x m e h = rw e (get_or-set_other m j i (x + get_or m j 0) 0 h)

module _ (s : Share) (l : List ℕ) where
  abbrev c : ℕ
  c = s.channel % 8

  abbrev k : ℕ
  k = s.state % 4

  pub count-passes : {g u t h a : Bool} → g ≡ passes c s.general l → u ≡ passes (c + 8) s.units l → t ≡ passes (c + 16) s.table l
      → h ≡ passes (k + 24) s.held l → a ≡ passes 28 s.held l → (g || (u || (t || (h || a)))) ≡ true → counted 13 l ≡ count_call l s
  unfolding count_call passing
  count-passes p q r v w e = let all : passing s l ≡ true = cc in rw all

  pub count-goes : {g u t h a : Bool} {l₁ l₂ l₃ l₄ l₅ : List ℕ} → g ≡ passes c s.general l → u ≡ passes (c + 8) s.units l
      → t ≡ passes (c + 16) s.table l → h ≡ passes (k + 24) s.held l → a ≡ passes 28 s.held l → (g || (u || (t || (h || a)))) ≡ false
      → l₁ ≡ wrapped c s.general l → l₂ ≡ wrapped (c + 8) s.units l₁ → l₃ ≡ wrapped (c + 16) s.table l₂ → l₄ ≡ wrapped (k + 24) s.held l₃
      → l₅ ≡ wrapped 28 s.held l₄ → counted 0 l₅ ≡ count_call l s
  unfolding count_call passing raised
  count-goes {g} {u} {t} {h} {a} {l₁} {l₂} {l₃} {l₄} {l₅} p q r v w e e₁ e₂ e₃ e₄ e₅ =
      let gs = neither g (u || (t || (h || a))) e in
      let us = neither u (t || (h || a)) gs.1 in
      let ts = neither t (h || a) us.1 in
      let hs = neither h a ts.1 in
      let m₁ : l₁ ≡ more c s.general l = e₁ ∙ exact c s.general l l refl (sym p ∙ gs.0) in
      let m₂ : l₂ ≡ more (c + 8) s.units l₁ = e₂ ∙ exact (c + 8) s.units l₁ l (other (c + 8) c s.general l m₁ (λ z. omega arith)) (sym q ∙ us.0) in
      let o₃ = other (c + 16) (c + 8) s.units l₁ m₂ (λ z. omega arith) ∙ other (c + 16) c s.general l m₁ (λ z. omega arith) in
      let m₃ : l₃ ≡ more (c + 16) s.table l₂ = e₃ ∙ exact (c + 16) s.table l₂ l o₃ (sym r ∙ ts.0) in
      let o₄ = other (k + 24) (c + 16) s.table l₂ m₃ (λ z. omega arith) ∙ other (k + 24) (c + 8) s.units l₁ m₂ (λ z. omega arith)
      ∙ other (k + 24) c s.general l m₁ (λ z. omega arith) in
      let m₄ : l₄ ≡ more (k + 24) s.held l₃ = e₄ ∙ exact (k + 24) s.held l₃ l o₄ (sym v ∙ hs.0) in
      let o₅ = other 28 (k + 24) s.held l₃ m₄ (λ z. omega arith) ∙ other 28 (c + 16) s.table l₂ m₃ (λ z. omega arith)
      ∙ other 28 (c + 8) s.units l₁ m₂ (λ z. omega arith) ∙ other 28 c s.general l m₁ (λ z. omega arith) in
      let m₅ : l₅ ≡ more 28 s.held l₄ = e₅ ∙ exact 28 s.held l₄ l o₅ (sym w ∙ hs.1) in
      let none : passing s l ≡ false = cc in
      let r₅ : l₅ ≡ raised s l = cc in
      rw none (ap (counted 0) r₅)
