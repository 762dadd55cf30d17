-- Two wrong answers of `count` that its contract rules out; and two right ones coincide.
use Rattle.std.proofs.Common.{◌≡◌, ℕ, ◌+◌, ◌-◌, ◌%◌, ◌^◌, Bool, true, false, ◌||◌, ◌≢◌, List, get_or, replicate, sym, refl, ap, ◌∙◌, arith, lt-ltb}
use mathlib.Core.Path.{◌∙⁻¹◌}
use Rattle.common.specs.Pick.{pick}
use Rattle.tally.specs.Share.{share, passes, passing, raised, Counted, counted, count_call}
use Rattle.tally.specs.declared.share.Share.{Share}

any_last : (a b c d : Bool) → (a || (b || (c || (d || true)))) ≡ true
any_last true b c d = refl
any_last false true c d = refl
any_last false false true d = refl
any_last false false false true = refl
any_last false false false false = refl

module _ (l : List ℕ) (s : Share) {r : ℕ} {totals : List ℕ} (k : counted r totals ≡ count_call l s) where
  -- a held cycle added to 2^64 - 1 of them and accepted
  pub count_past_the_last : get_or l 28 0 ≡ 18446744073709551615 → s.held ≡ 1 → r ≢ 0
  unfolding count_call passing
  count_past_the_last e h z =
      let last : passes 28 s.held l ≡ true = lt-ltb (2 ^ 64 - 1) (get_or l 28 0 + s.held) (omega arith) in
      let over : passing s l ≡ true = rw last (any_last (passes (s.channel % 8) s.general l) (passes (s.channel % 8 + 8) s.units l) (passes (s.channel % 8 + 16) s.table l) (passes (s.state % 4 + 24) s.held l)) in
      let n : r ≡ 13 = ap (λ (c : Counted). c.number) k ∙ ap (λ (b : Bool). (pick b (counted 13 l) (counted 0 (raised s l))).number) over in
      omega arith

  pub count_coincides : {r' : ℕ} {totals' : List ℕ} → counted r' totals' ≡ count_call l s → (r ≡ r') × (totals ≡ totals')
  count_coincides q = let e = k ∙⁻¹ q in (ap (λ (c : Counted). c.number) e, ap (λ (c : Counted). c.totals) e)

-- a held cycle that no total shows
pub count-nothing : {r : ℕ} {totals : List ℕ} → counted r totals ≡ count_call (replicate 29 0) (share 0 0 0 0 2 1) → totals ≢ replicate 29 0
unfolding count_call passing raised
count-nothing k e =
    let z : ◌≡◌ {A = ℕ} (get_or (replicate 29 0) 28 0) 1 = ap (λ (l : List ℕ). get_or l 28 0) (sym e ∙ ap (λ (c : Counted). c.totals) k) in
    omega arith
