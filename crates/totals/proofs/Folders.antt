-- One file more, joined from its tests: refused, or accepted.
use Prim.Native.Nat.{ℕ, ◌+◌, ◌≤◌, ◌<◌}
use mathlib.Core.Bool.{Bool, true, false, ◌||◌}
use mathlib.Core.List.{List}
use mathlib.Core.Path.{◌≡◌, refl, sym, ap}
use Rattle.std.specs.Prelude.{Result, Ok, Err}
use Rattle.std.specs.Result.{IsErr, IsErrAnd}
use native.Mathlib.Omega.{arith}
use borrow.Author.Tests.{le-leb, lt-leb, leb-false, ne_eqb}
use Rattle.common.specs.Pick.{pick}
use Rattle.totals.proofs.Tests.{neither}
use Rattle.totals.specs.Column.{passes, column_with}
use Rattle.common.specs.Refusal.{refusal_number}
use Rattle.common.specs.declared.refusal.Refusal.{Refusal}
use Rattle.common.proofs.RefusalLaws.{refusal_number-ne0}
use Rattle.totals.specs.Folder.{overflows, full, folder_number, Added, add_call}
use Rattle.totals.specs.declared.{Column.Column, folder.Folder.Folder}

-- what an accepted file finds: the totals of both columns fit, and there is room
pub record Fine (f : Folder) (all alive : List ℕ) : Type 0 where
  pub fits : passes f.all.sum all ≡ false
  pub survives : passes f.alive.sum alive ≡ false
  pub room : f.files < 256

module _ (f : Folder) (all alive : List ℕ) where
  module _ {a b : Bool} (p : a ≡ passes f.all.sum all) (q : b ≡ passes f.alive.sum alive) where
    pub number-over : (a || b) ≡ true → 13 ≡ folder_number f all alive
    unfolding folder_number
    number-over e = rw (sym p, sym q, e)

    pub number-full : (a || b) ≡ false → 256 ≤ f.files → 14 ≡ folder_number f all alive
    unfolding folder_number
    number-full e h = rw (sym p, sym q, e, le-leb 256 f.files h)

    pub number-fine : (a || b) ≡ false → f.files < 256 → 0 ≡ folder_number f all alive
    unfolding folder_number
    number-fine e h = rw (sym p, sym q, e, lt-leb 256 f.files h)

  pub add-refused : (x : Refusal) → refusal_number x ≡ folder_number f all alive → record { number = refusal_number x; folder = f } ≡ add_call f all alive
  unfolding add_call
  add-refused x r = rw (sym r, ne_eqb (refusal_number x) 0 (refusal_number-ne0 x))

  pub add-accepted : {a b : Column} → 0 ≡ folder_number f all alive → a ≡ column_with f.all (f.files + 1) all → b ≡ column_with f.alive (f.files + 1) alive
      → ◌≡◌ {A = Added} (record { number = 0; folder = record { files = f.files + 1; all = a; alive = b } }) (add_call f all alive)
  unfolding add_call
  add-accepted r p q = rw (sym r, p, q)

  pub accepted : folder_number f all alive ≡ 0 → Fine f all alive
  unfolding folder_number
  accepted = go (overflows f all alive) (full f) refl refl where
    go : (a b : Bool) → overflows f all alive ≡ a → full f ≡ b → ◌≡◌ {A = ℕ} (pick a 13 (pick b 14 0)) 0 → Fine f all alive
    go true b p q e = absurd (omega arith)
    go false true p q e = absurd (omega arith)
    go false false p q e =
        let n = neither (passes f.all.sum all) (passes f.alive.sum alive) p in
        record { fits = n.0; survives = n.1; room = leb-false 256 f.files q }

-- what `?` hands on is the refusal that came
pub passed : {T : Type 0} (x : Result T Refusal) {r : Refusal} → IsErr x × IsErrAnd x (λ y. y ≡ r) → x ≡ Err r
passed (Ok v) (p, q) = absurd q
passed (Err e) (p, q) = ap Err q
