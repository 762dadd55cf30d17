-- Lines of the table in order: nothing refuses where neither number does, and each call's number is `lent_number`'s, also its own.
use Prim.Native.Nat.{ℕ, zero, suc}
use mathlib.Core.Bool.{Bool, true, false}
use mathlib.Core.Path.{◌≡◌, refl}
use native.Mathlib.Omega.{arith}
use borrow.Author.Tests.{ne_eqb}
use lib.Dec.{eqb}
use Rattle.common.specs.Pick.{pick}
use Rattle.common.proofs.RefusalLaws.{refusal_number-ne0}
use Rattle.common.specs.Refusal.{refusal_number}
use Rattle.common.specs.declared.refusal.Refusal.{Refusal}
use Rattle.ring.specs.Refusal.{also_of, cycle_number, port_number, address_number, back_number}
use Rattle.ring.specs.declared.Bench.{Bench}

pub neither : (first second : ℕ) → also_of first second ≡ 0 → (first ≡ 0) × (second ≡ 0)
neither zero second z = (refl, z)
neither (suc n) second z = let k : suc n ≡ 0 = rw (ne_eqb (suc n) 0 (λ e. omega (arith, e))) at z in absurd (omega (arith, k))

same : (c : Bool) (n : ℕ) → pick c n n ≡ n
same true n = refl
same false n = refl

not_0 : (n : ℕ) → eqb (suc n) 0 ≡ false
not_0 n = ne_eqb (suc n) 0 (λ e. omega (arith, e))

pub cycle-also : (lent : ℕ) (b : Bench) (event : ℕ) → cycle_number lent b event ≡ also_of lent (cycle_number 0 b event)
unfolding cycle_number
cycle-also zero b event = refl
cycle-also (suc n) b event = simp (not_0 n, same)

pub port-also : (lent port : ℕ) → port_number lent port ≡ also_of lent (port_number 0 port)
unfolding port_number
port-also zero port = refl
port-also (suc n) port = simp (not_0 n, same)

pub address-also : (lent addr : ℕ) → address_number lent addr ≡ also_of lent (address_number 0 addr)
unfolding address_number
address-also zero addr = refl
address-also (suc n) addr = simp (not_0 n, same)

pub back-also : (lent kept : ℕ) (ok : Bool) → back_number lent kept ok ≡ also_of lent (back_number 0 kept ok)
unfolding back_number
back-also zero kept ok = refl
back-also (suc n) kept ok = simp (not_0 n, same)

-- a refusal is a number that is not 0, so where `lent` refuses, its number is the call's
pub refuses : (r : Refusal) → eqb (refusal_number r) 0 ≡ false
refuses r = ne_eqb (refusal_number r) 0 (refusal_number-ne0 r)

pub cycle-first : (r : Refusal) (b : Bench) (event : ℕ) → refusal_number r ≡ cycle_number (refusal_number r) b event
cycle-first r b event = rw (cycle-also (refusal_number r) b event, refuses r) refl

pub port-first : (r : Refusal) (port : ℕ) → refusal_number r ≡ port_number (refusal_number r) port
port-first r port = rw (port-also (refusal_number r) port, refuses r) refl

pub address-first : (r : Refusal) (addr : ℕ) → refusal_number r ≡ address_number (refusal_number r) addr
address-first r addr = rw (address-also (refusal_number r) addr, refuses r) refl

pub back-first : (r : Refusal) (kept : ℕ) (ok : Bool) → refusal_number r ≡ back_number (refusal_number r) kept ok
back-first r kept ok = rw (back-also (refusal_number r) kept ok, refuses r) refl
