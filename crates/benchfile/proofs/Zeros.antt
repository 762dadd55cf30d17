-- The bytes from a place on, each of them zero.
use Prim.Native.Nat.{ℕ, zero, suc, ◌+◌, ◌-◌, ◌≤◌, ◌<◌}
use mathlib.Core.Bool.{Bool, true, false, and-eq-true_iff}
use mathlib.Core.List.{List, [], ◌∷◌}
use mathlib.Core.Logic.{◌↔◌}
use mathlib.Core.Path.{◌≡◌, refl, sym, ap}
use native.Mathlib.Omega.{arith}
use lib.Dec.{eqb}
use lib.ListN.{length, length-drop, drop, replicate}
use borrow.Author.Tests.{eq-eqb, eqb-true}
use Rattle.std.proofs.lemmas.List.{get_or-drop}
use Rattle.fields.specs.Bytes.{byte_at}
use Rattle.benchfile.specs.Row.{all_zero, zeros}

pub are : (l : List ℕ) → all_zero l ≡ true → l ≡ replicate (length l) 0
are [] h = refl
are (x ∷ l) h =
    let p = (and-eq-true_iff (eqb x 0) (all_zero l)).0 h in
    rw (eqb-true x 0 p.0) (ap (λ (t : List ℕ). 0 ∷ t) (are l p.1))

each : (l : List ℕ) (i : ℕ) → all_zero l ≡ true → byte_at l i ≡ 0
each [] i h = refl
each (x ∷ l) zero h = eqb-true x 0 ((and-eq-true_iff (eqb x 0) (all_zero l)).0 h).0
each (x ∷ l) (suc i) h = each l i ((and-eq-true_iff (eqb x 0) (all_zero l)).0 h).1

all : (l : List ℕ) → ((i : ℕ) → i < length l → byte_at l i ≡ 0) → all_zero l ≡ true
all [] h = refl
all (x ∷ l) h = rw (eq-eqb x 0 (h 0 (omega arith))) (all l (λ i m. h (suc i) (omega arith)))

-- tests that hold together are the same
pub same : (a b : Bool) → (a ≡ true → b ≡ true) → (b ≡ true → a ≡ true) → a ≡ b
same true b h k = sym (h refl)
same false true h k = k refl
same false false h k = refl

-- each byte from place k on is zero
abbrev pub Blank : List ℕ → ℕ → Type 0
Blank b k = (i : ℕ) → i < length b → k ≤ i → byte_at b i ≡ 0

-- a test that holds exactly there
pub tested : (b : List ℕ) (k : ℕ) (r : Bool) → (r ≡ true) ↔ Blank b k → r ≡ zeros b k
tested b k r h =
    let down : r ≡ true → zeros b k ≡ true =
    λ e. all (drop k b) (λ i m. let n : i < length b - k = simp length-drop at m in rw get_or-drop (h.0 e (k + i) (omega arith) (omega arith))) in
    let up : zeros b k ≡ true → r ≡ true =
    λ e. h.1 (λ i m l. let p : k + (i - k) ≡ i = omega arith in let q = each (drop k b) (i - k) e in rw p at (rw get_or-drop at q)) in
    same r (zeros b k) down up
