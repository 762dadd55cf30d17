-- A page look: where nothing refuses, both banks are whole and the page is one of theirs; where something does, there are no bytes.
use Prim.Native.Nat.{ℕ, ◌*◌, ◌-◌, ◌<◌}
use mathlib.Core.Bool.{Bool, true, false, not, ◌||◌}
use mathlib.Core.List.{List, []}
use mathlib.Core.Logic.{◌≢◌}
use mathlib.Core.Path.{◌≡◌, refl}
use native.Mathlib.Omega.{arith}
use borrow.Author.Tests.{eqb-true, ltb-true, ltb-false, le-ltb}
use lib.Dec.{eqb, ltb}
use lib.ListN.{length, take, drop}
use Rattle.common.proofs.RefusalLaws.{refusal_number-ne0}
use Rattle.common.specs.Pick.{pick}
use Rattle.common.specs.Refusal.{refusal_number}
use Rattle.common.specs.declared.refusal.Refusal.{Refusal}
use Rattle.bench.specs.Page.{page_call}
use Rattle.ring.specs.Refusal.{look_number}

pub record Whole (low high page : ℕ) : Type 0 where
  pub low_is : low ≡ 65536
  pub high_is : high ≡ 65536
  pub page_in : page < 512

three : (l h p : Bool) → ◌≡◌ {A = ℕ} 0 (pick (not l || not h) 1 (pick p 12 0)) → (l ≡ true) × (h ≡ true) × (p ≡ false)
three true true false e = (refl, refl, refl)
three true true true e = absurd (omega (arith, e))
three true false p e = absurd (omega (arith, e))
three false h p e = absurd (omega (arith, e))

pub whole : (low high page : ℕ) → 0 ≡ look_number low high page → Whole low high page
unfolding look_number
whole low high page e =
    let (l, h, p) = three (eqb low 65536) (eqb high 65536) (ltb 511 page) e in
    record { low_is = eqb-true low 65536 l; high_is = eqb-true high 65536 h; page_in = omega (arith, ltb-false 511 page p) }

none : {n : ℕ} (x y : List ℕ) (l h p q s : Bool) → n ≢ 0 → n ≡ pick (not l || not h) 1 (pick p 12 0) → (p ≡ true → (q ≡ false) × (s ≡ false))
    → [] ≡ pick (not l || not h) [] (pick q x (pick s y []))
none x y true true true q s z e f = let (a, b) = f refl in rw (a, b) refl
none x y true true false q s z e f = absurd (z e)
none x y true false p q s z e f = refl
none x y false h p q s z e f = refl

pub nothing : (low high : List ℕ) (page : ℕ) (r : Refusal) → refusal_number r ≡ look_number (length low) (length high) page → [] ≡ page_call low high page
unfolding look_number page_call
nothing low high page r e =
    none (take 256 (drop (page * 256) low)) (take 256 (drop ((page - 256) * 256) high)) (eqb (length low) 65536) (eqb (length high) 65536) (ltb 511 page) (ltb page 256) (ltb page 512) (refusal_number-ne0 r) e
    (λ (t : ltb 511 page ≡ true). let k : 511 < page = ltb-true 511 page t in (le-ltb page 256 (omega (arith, k)), le-ltb page 512 (omega (arith, k))))
