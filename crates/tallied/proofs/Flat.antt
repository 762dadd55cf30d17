-- One count a row says which calls survive: so many of its first. A back step takes the last of them.
use Prim.Native.Nat.{ℕ, zero, suc, ◌-◌, ◌≤◌, ◌<◌}
use mathlib.Core.List.{List, [], ◌∷◌, ◌++◌, append-nil, append_assoc}
use mathlib.Core.Logic.{◌⊎◌, inl, inr}
use mathlib.Core.Path.{◌≡◌, refl, sym, ap, ◌∙◌}
use native.Mathlib.Decide.{dec_lt}
use native.Mathlib.Omega.{arith}
use borrow.Author.Tests.{eqb-true, eqb-false, lt-ltb}
use lib.Dec.{eqb}
use lib.ListN.{length, get_or, set}
use lib.Seq.{get_or-set_same, get_or-set_other}
use Rattle.common.proofs.TableLaws.{pick_case}
use Rattle.benchfile.specs.Row.{row_at}
use Rattle.rewind.specs.Run.{Call}
use Rattle.tally.specs.Alive.{latest_of}
use Rattle.tallied.specs.History.{call_at, first_calls, calls_of}

-- a row with one operation less, where it has any
abbrev pub lowered : List ℕ → ℕ → List ℕ
lowered l k = set l k (get_or l k 0 - 1)

pub zero-stays : (l : List ℕ) (k j : ℕ) → get_or l j 0 ≡ 0 → get_or (lowered l k) j 0 ≡ 0
zero-stays [] k j e = e
zero-stays (x ∷ l) zero zero e = omega arith
zero-stays (x ∷ l) zero (suc j) e = e
zero-stays (x ∷ l) (suc k) zero e = e
zero-stays (x ∷ l) (suc k) (suc j) e = zero-stays l k j e

-- no place of a list passes b
abbrev pub Under : ℕ → List ℕ → Type 0
Under b l = (j : ℕ) → get_or l j 0 ≤ b

pub set-under : (b : ℕ) (l : List ℕ) (k x : ℕ) → x ≤ b → Under b l → Under b (set l k x)
set-under b [] k x h u j = u j
set-under b (y ∷ l) zero x h u zero = h
set-under b (y ∷ l) zero x h u (suc j) = u (suc j)
set-under b (y ∷ l) (suc k) x h u zero = u zero
set-under b (y ∷ l) (suc k) x h u (suc j) = set-under b l k x h (λ i. u (suc i)) j

-- the latest row that has any, or the first
pub record Latest (l : List ℕ) (top k : ℕ) : Type 0 where
  pub most : k ≤ top
  pub above : (j : ℕ) → k < j → j ≤ top → get_or l j 0 ≡ 0
  pub none : get_or l k 0 ≡ 0 → k ≡ 0

pub latest : (l : List ℕ) (top : ℕ) → Latest l top (latest_of l top)
unfolding latest_of
latest l zero = record { most = omega arith; above = λ j a b. absurd (omega arith); none = λ e. refl }
latest l (suc i) =
    let L = latest l i in
    pick_case (Latest l (suc i)) (eqb (get_or l (suc i) 0) 0)
    (λ e. record {
      most = omega (arith, L.most);
      above = λ j a b. elim (dec_lt i j) [
        | yes h ↦ let q : j ≡ suc i = omega arith in rw q (eqb-true (get_or l (suc i) 0) 0 e)
        | no h ↦ L.above j a (omega arith)
      ];
      none = L.none;
    })
    (λ e. record { most = omega arith; above = λ j a b. absurd (omega arith); none = λ z. absurd (eqb-false (get_or l (suc i) 0) 0 e z) })

module _ (script : List ℕ) where
  -- the calls of the first n rows, so many of each
  unfoldable pub flat : List ℕ → ℕ → List Call
  flat l zero = []
  flat l (suc n) = flat l n ++ first_calls (row_at script n) (get_or l n 0)

  pub flat-set : (l : List ℕ) (k x n : ℕ) → n ≤ k → flat (set l k x) n ≡ flat l n
  unfolding flat
  flat-set l k x zero h = refl
  flat-set l k x (suc n) h =
      let e : get_or (set l k x) n 0 ≡ get_or l n 0 = get_or-set_other l k n x 0 (λ q. omega arith) in
      rw e (ap (λ (cs : List Call). cs ++ first_calls (row_at script n) (get_or l n 0)) (flat-set l k x n (omega arith)))

  -- a row with none
  pub flat-zero : (l : List ℕ) (n : ℕ) → get_or l n 0 ≡ 0 → flat l (suc n) ≡ flat l n
  unfolding flat first_calls
  flat-zero l n e = rw e (append-nil (flat l n))

  pub flat-zeros : (l : List ℕ) (k n : ℕ) → k ≤ n → ((j : ℕ) → k ≤ j → get_or l j 0 ≡ 0) → flat l n ≡ flat l k
  flat-zeros l k zero h z = let q : k ≡ zero = omega arith in rw q
  flat-zeros l k (suc n) h z = elim (dec_lt n k) [
    | yes a ↦ let q : k ≡ suc n = omega arith in rw q
    | no a ↦ flat-zero l n (z n (omega arith)) ∙ flat-zeros l k n (omega arith) z
  ]

  -- a row's last call taken
  flat-lowered : (l : List ℕ) (k q : ℕ) → k < length l → get_or l k 0 ≡ suc q → flat l (suc k) ≡ flat (lowered l k) (suc k) ++ (call_at (row_at script k) q ∷ [])
  unfolding flat first_calls
  flat-lowered l k q h e =
      let less : get_or (lowered l k) k 0 ≡ q = get_or-set_same l k (get_or l k 0 - 1) 0 h ∙ omega (arith, e) in
      let says = row_at script k in
      let c = call_at says q in
      let front = flat-set l k (get_or l k 0 - 1) k (omega arith) in
      ap (λ (n : ℕ). flat l k ++ first_calls says n) e ∙ sym (append_assoc (flat l k) (first_calls says q) (c ∷ []))
      ∙ (λ i. sym front i ++ first_calls says (sym less i) ++ (c ∷ []))

  -- one call less, or none as before
  abbrev pub Struck : List Call → List Call → Type 0
  Struck a b = ((a ≡ []) × (b ≡ [])) ⊎ ((c : Call) × (a ≡ b ++ (c ∷ [])))

  pub flat-struck : (l : List ℕ) (k n : ℕ) → k < n → n ≤ length l → ((j : ℕ) → k < j → get_or l j 0 ≡ 0) → (get_or l k 0 ≡ 0 → k ≡ 0)
      → Struck (flat l n) (flat (lowered l k) n)
  unfolding flat
  flat-struck l k n h long z first = go (get_or l k 0) refl
    where
      down : (m : List ℕ) → ((j : ℕ) → k < j → get_or m j 0 ≡ 0) → flat m n ≡ flat m (suc k)
      down m y = flat-zeros m (suc k) n (omega arith) (λ j q. y j (omega arith))

      go : (q : ℕ) → get_or l k 0 ≡ q → Struck (flat l n) (flat (lowered l k) n)
      go zero e =
          let all : (j : ℕ) → 0 ≤ j → get_or l j 0 ≡ 0 = λ j q. elim (dec_lt k j) [
            | yes a ↦ z j a
            | no a ↦ let i : j ≡ k = omega (arith, first e) in rw i e
          ] in
          inl (flat-zeros l 0 n (omega arith) all, flat-zeros (lowered l k) 0 n (omega arith) (λ j q. zero-stays l k j (all j q)))
      go (suc q) e =
          inr (
            call_at (row_at script k) q,
            down l z ∙ flat-lowered l k q (omega arith) e
                ∙ ap (λ (cs : List Call). cs ++ (call_at (row_at script k) q ∷ [])) (sym (down (lowered l k) (λ j a. zero-stays l k j (z j a)))),
          )

  -- they are the calls of the script with these limits
  pub flat-calls : (l : List ℕ) (n : ℕ) → n ≤ length l → flat l n ≡ calls_of script l n
  unfolding flat calls_of
  flat-calls l zero h = refl
  flat-calls l (suc n) h =
      rw (lt-ltb n (length l) (omega arith)) (ap (λ (cs : List Call). cs ++ first_calls (row_at script n) (get_or l n 0)) (flat-calls l n (omega arith)))
