-- The writes of a log, counted one by one.
use Rattle.std.proofs.Common.{◌≡◌, ℕ, zero, suc, ◌+◌, ◌<◌, ◌≤◌, Bool, true, false, List, [], ◌∷◌, ◌++◌, min, length, get_or, take, take-suc, take_all, sym, refl, ap, ◌∙◌, add-one, arith, length-append}
use mir.Val.{bool_byte}
use Rattle.std.proofs.lemmas.List.{length-take}
use Rattle.bus.specs.{Access.Log, Access.no_access, Access.firsts, Access.accesses_of, declared.access.Access.Access}
use Rattle.tally.specs.Figure.{writes}

pub length-firsts : (n : ℕ) (items : List Access) → length (firsts n items) ≡ n
unfolding firsts
length-firsts zero items = refl
length-firsts (suc n) items = length-append (firsts n items) (get_or items n no_access ∷ []) ∙ omega (arith, length-firsts n items)

pub writes-last : (l : List Access) (a : Access) → writes (l ++ (a ∷ [])) ≡ writes l + bool_byte a.write
unfolding writes
writes-last [] a = omega arith
writes-last (x ∷ l) a = omega (arith, writes-last l a)

pub bool-one : (b : Bool) → bool_byte b ≤ 1
bool-one true = omega arith
bool-one false = omega arith

-- the first places of a log, as far as it has them
pub firsts-take : (n : ℕ) (items : List Access) → n ≤ length items → firsts n items ≡ take n items
unfolding firsts
firsts-take zero items h = refl
firsts-take (suc n) items h =
    ap (λ (l : List Access). l ++ (get_or items n no_access ∷ [])) (firsts-take n items (omega arith)) ∙ sym (take-suc items n no_access (omega arith))

-- what a log lends is its accesses
pub held-accesses : (log : Log) {xs : List Access} → xs ≡ take (min log.count 11) log.items → length xs ≡ min log.count 11 → xs ≡ accesses_of log
held-accesses log e l =
    let n = min log.count 11 in e ∙ sym (firsts-take n log.items (omega (arith, l, ap length e, length-take n log.items)))

-- of the first i accesses n are writes
pub record Seen (xs : List Access) (n i : ℕ) : Type 0 where
  pub is : n ≡ writes (take i xs)
  pub few : n ≤ i

module _ (xs : List Access) where
  pub seen_none : Seen xs 0 0
  unfolding writes
  seen_none = record { is = refl; few = omega arith }

  pub seen_more : {n i : ℕ} → Seen xs n i → i < length xs → Seen xs (n + bool_byte (get_or xs i no_access).write) (i + 1)
  seen_more {n} {i} s h =
      let a = get_or xs i no_access in
      record {
        is = rw (add-one i) (ap (λ (k : ℕ). k + bool_byte a.write) s.is ∙ sym (writes-last (take i xs) a) ∙ ap writes (sym (take-suc xs i no_access h)));
        few = omega (arith, s.few, bool-one a.write);
      }

  pub seen_all : {n i : ℕ} → Seen xs n i → length xs ≤ i → n ≡ writes xs
  seen_all {n} {i} s h = s.is ∙ ap writes (take_all i xs h)
