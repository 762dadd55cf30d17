-- Plain cycles in a row as far as the DMA unit sees: what it sees and what it is after n of them, the ways of their bytes, each of them held.
use Prim.Native.Nat.{ℕ, ◌+◌, ◌-◌, ◌<◌}
use mathlib.Core.Bool.{Bool, true, false}
use mathlib.Core.List.{List, [], ◌∷◌, ◌++◌, append-nil, append_assoc}
use mathlib.Core.Path.{◌≡◌, refl, sym, ap, subst, ◌∙◌}
use native.Mathlib.Omega.{arith}
use borrow.Author.Tests.{ltb-true, ltb-false}
use lib.Dec.{ltb}
use lib.ListN.{length, length-append}
use Rattle.bus.proofs.Seen.{Seen, seen}
use Rattle.bus.specs.declared.access.Access.{Access}
use Rattle.machine.proofs.Plain.{plain-add}
use Rattle.machine.specs.Plain.{Ran, next, plain, held_at}
use Rattle.state.specs.declared.{Dma.Dma, Machine.Machine}
use Rattle.transfer.specs.declared.byte.Trip.{Trip}
use Rattle.loads.specs.Load.{pair, carried}

-- what the unit sees, and the unit
pub record Plan : Type 0 where
  pub sees : Seen
  pub dma : Dma

abbrev pub plan_of : Machine → Plan
plan_of m = record { sees = seen m.io; dma = m.dma }

-- accesses of more ways
pub carried_append : (ts us : List Trip) (vs ws : List ℕ) → length vs ≡ length ts → carried (ts ++ us) (vs ++ ws) ≡ carried ts vs ++ carried us ws
unfolding carried
carried_append [] us [] ws h = refl
carried_append [] us (v ∷ vs) ws h = absurd (omega (arith, h))
carried_append (t ∷ ts) us [] ws h = absurd (omega (arith, h))
carried_append (t ∷ ts) us (v ∷ vs) ws h =
    ap (λ (l : List Access). pair t v ++ l) (carried_append ts us vs ws (omega (arith, h))) ∙ sym (append_assoc (pair t v) (carried ts vs) (carried us ws))

module _ (rom : List ℕ) where
  -- n cycles from s, all of them held
  pub record Goes (s : Ran) (n : ℕ) (p : Plan) (ts : List Trip) : Type 0 where
    pub each : (i : ℕ) → i < n → held_at rom i s ≡ true
    pub plan : plan_of (plain rom n s).machine ≡ p
    pub bytes : List ℕ
    pub number : length bytes ≡ length ts
    pub made : (plain rom n s).made ≡ s.made ++ carried ts bytes

  -- from a plan, whatever else the machine is
  abbrev pub Phase : Plan → ℕ → Plan → List Trip → Type 0
  Phase p n q ts = (s : Ran) → plan_of s.machine ≡ p → Goes s n q ts

  pub goes_on : {q r : Plan} (s : Ran) (j k : ℕ) (ts us : List Trip) → Goes s j q ts → Phase q k r us → Goes s (j + k) r (ts ++ us)
  goes_on s j k ts us a g =
      let t = plain rom j s in
      let b = g t a.plan in
      record {
        each = λ i h. go i h (ltb i j) refl;
        plan = ap (λ (x : Ran). plan_of x.machine) (plain-add rom j k s) ∙ b.plan;
        bytes = a.bytes ++ b.bytes;
        number = length-append a.bytes b.bytes ∙ omega (arith, a.number, b.number, length-append ts us);
        made = ap (λ (x : Ran). x.made) (plain-add rom j k s) ∙ b.made ∙ ap (λ (l : List Access). l ++ carried us b.bytes) a.made
            ∙ append_assoc s.made (carried ts a.bytes) (carried us b.bytes)
            ∙ ap (λ (l : List Access). s.made ++ l) (sym (carried_append ts us a.bytes b.bytes a.number));
      }
    where
      go : (i : ℕ) → i < j + k → (x : Bool) → ltb i j ≡ x → held_at rom i s ≡ true
      go i h true e = a.each i (ltb-true i j e)
      go i h false e =
          let over = ltb-false i j e in
          let at : i ≡ j + (i - j) = omega (arith, over) in
          ap (λ (n : ℕ). held_at rom n s) at ∙ ap (λ (x : Ran). (next rom x).held) (plain-add rom j (i - j) s)
          ∙ (g (plain rom j s) a.plan).each (i - j) (omega (arith, over, h))

  pub join : {p q r : Plan} (j k : ℕ) (ts us : List Trip) → Phase p j q ts → Phase q k r us → Phase p (j + k) r (ts ++ us)
  join j k ts us f g s e = goes_on s j k ts us (f s e) g

  -- no cycle
  pub stand : (p : Plan) → Phase p 0 p []
  unfolding plain carried
  stand p s e = record { each = λ i h. absurd (omega (arith, h)); plan = e; bytes = []; number = refl; made = sym (append-nil s.made) }

  -- the same by other names
  pub named : {s : Ran} {q r : Plan} {j k : ℕ} {ts us : List Trip} → j ≡ k → q ≡ r → ts ≡ us → Goes s j q ts → Goes s k r us
  named {s} {q} {r} {j} {k} {ts} {us} e d t g = subst (λ (n : ℕ). Goes s n r us) e (subst (λ (x : Plan). Goes s j x us) d (subst (Goes s j q) t g))

  pub renamed : {p q r : Plan} {j k : ℕ} {ts us : List Trip} → j ≡ k → q ≡ r → ts ≡ us → Phase p j q ts → Phase p k r us
  renamed e d t f s h = named e d t (f s h)
