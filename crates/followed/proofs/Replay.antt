-- A log with one access more, replayed: what was before it is replayed as before.
use Prim.Native.Nat.{ℕ, zero, suc, ◌<◌}
use mathlib.Core.Bool.{Bool, true, false}
use mathlib.Core.List.{List}
use mathlib.Core.Path.{◌≡◌, refl, sym, ap, subst, ◌∙◌}
use native.Mathlib.Omega.{arith}
use borrow.Author.Tests.{ltb-true, ltb-false}
use lib.Dec.{ltb}
use lib.ListN.{get_or}
use Rattle.bus.proofs.Adds.{logs}
use Rattle.bus.specs.{Access.no_access, World.World}
use Rattle.bus.specs.declared.access.Access.{Access}
use Rattle.registers.specs.declared.wm_address.WmAddress.{WmAddress}
use Rattle.touch.specs.Reach.{spot_of, wm_after, reach_of}
use Rattle.touch.specs.declared.who.Who.{Who}
use Rattle.wram.specs.Banks.{Banks}
use Rattle.followed.specs.Standing.{wm_at, place_by, ram_by, ram_at, Told, Stands}

abbrev pub items : World → List Access
items w = w.core.log.items

-- places alike up to n are replayed alike
abbrev Alike : List Access → List Access → ℕ → Type 0
Alike l k n = (i : ℕ) → i < n → get_or l i no_access ≡ get_or k i no_access

wm-front : (s : WmAddress) (l k : List Access) (n : ℕ) → Alike l k n → wm_at s l n ≡ wm_at s k n
unfolding wm_at
wm-front s l k zero f = refl
wm-front s l k (suc n) f =
    let e = wm-front s l k n (λ i h. f i (omega arith)) in let g = f n (omega arith) in cc

ram-front : (s : WmAddress) (b : Banks) (l k : List Access) (n : ℕ) → Alike l k n → ram_at s b l n ≡ ram_at s b k n
unfolding ram_at
ram-front s b l k zero f = refl
ram-front s b l k (suc n) f =
    let d = wm-front s l k n (λ i h. f i (omega arith)) in
    let e = ram-front s b l k n (λ i h. f i (omega arith)) in
    let g = f n (omega arith) in
    ap (λ (x : WmAddress). ram_by x (get_or l n no_access) (ram_at s b l n)) d
    ∙ ap (λ (a : Access). ram_by (wm_at s k n) a (ram_at s b l n)) g ∙ ap (ram_by (wm_at s k n) (get_or k n no_access)) e

-- what a listing takes along, and the place that it lists
pub next : (who : Who) (s : WmAddress) (l : List Access) (n : ℕ) → (reach_of who (wm_at s l n) (get_or l n no_access)).after ≡ wm_at s l (suc n)
unfolding wm_at reach_of
next who s l n = refl

pub listed : (who : Who) (w : WmAddress) (a : Access) → (reach_of who w a).spot ≡ spot_of (place_by w a)
unfolding reach_of
listed who w a = refl

told_same : {x y : WmAddress} {a c : Access} {b d : Banks} → x ≡ y → a ≡ c → b ≡ d → Told x a b → Told y c d
told_same {x} {y} {a} {c} {b} {d} p q r t =
    subst (λ (z : Banks). Told y c z) r (subst (λ (z : Access). Told y z b) q (subst (λ (z : WmAddress). Told z a b) p t))

-- one access more
module _ (s : WmAddress) (b : Banks) (w v : World) (a : Access) (n : logs v ≡ suc (logs w)) (f : Alike (items v) (items w) (logs w)) (g : get_or (items v) (logs w) no_access ≡ a) (t : Stands s b w) where
  wm-here : w.core.io.wmadd ≡ wm_at s (items v) (logs w)
  wm-here = t.wmadd ∙ sym (wm-front s (items v) (items w) (logs w) f)

  ram-here : w.ram ≡ ram_at s b (items v) (logs w)
  ram-here = t.ram ∙ sym (ram-front s b (items v) (items w) (logs w) f)

  abbrev ToldAt : ℕ → Type 0
  ToldAt i = Told (wm_at s (items v) i) (get_or (items v) i no_access) (ram_at s b (items v) i)

  told-all : Told w.core.io.wmadd a w.ram → (i : ℕ) → i < logs v → (x : Bool) → ltb i (logs w) ≡ x → ToldAt i
  told-all h i k true e =
      let less = ltb-true i (logs w) e in
      let before : Alike (items w) (items v) i = λ j m. sym (f j (omega arith)) in
      told_same (wm-front s (items w) (items v) i before) (sym (f i less)) (ram-front s b (items w) (items v) i before) (t.told i less)
  told-all h i k false e =
      let here : logs w ≡ i = omega (arith, ltb-false i (logs w) e) in
      subst ToldAt here (told_same wm-here (sym g) ram-here h)

  pub one : v.core.io.wmadd ≡ wm_after w.core.io.wmadd a → v.ram ≡ ram_by w.core.io.wmadd a w.ram → Told w.core.io.wmadd a w.ram → Stands s b v
  unfolding wm_at ram_at
  one p q h =
      let here = wm_at s (items v) (logs w) in
      record {
        wmadd = p ∙ ap (λ (x : WmAddress). wm_after x a) wm-here ∙ ap (wm_after here) (sym g) ∙ ap (wm_at s (items v)) (sym n);
        ram = q ∙ ap (λ (x : WmAddress). ram_by x a w.ram) wm-here ∙ ap (ram_by here a) ram-here
            ∙ ap (λ (c : Access). ram_by here c (ram_at s b (items v) (logs w))) (sym g) ∙ ap (ram_at s b (items v)) (sym n);
        told = λ i k. told-all h i k (ltb i (logs w)) refl;
      }
