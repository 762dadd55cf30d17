-- The calls of a script of bytes have arguments of their types.
use Prim.Native.Nat.{ℕ, zero, suc, ◌*◌, ◌≤◌, ◌<◌}
use mathlib.Core.List.{List, [], ◌∷◌, ◌++◌}
use mathlib.Core.Path.{◌≡◌, refl}
use native.Mathlib.Omega.{arith}
use lib.Dec.{eqb, ltb}
use lib.ListN.{length, get_or, replicate}
use Rattle.common.proofs.{AllLaws.byte_fits, TableLaws.pick_elim, TableLaws.find_elim}
use Rattle.common.specs.{All.AllOf, Width.Byte, Width.Bytes}
use Rattle.bench.specs.Calls.{Desk}
use Rattle.benchfile.specs.Row.{formed_row, field_table, fields_of, row_of, row_at, row_bytes}
use Rattle.benchfile.specs.declared.row.Row.{Row}
use Rattle.benchfile.specs.declared.row.Row.TheVariants.{Broken}
use Rattle.fields.proofs.{Number.field_below, Parts.part_bytes}
use Rattle.fields.specs.Bytes.{byte_at}
use Rattle.rewind.specs.Run.{Call, TypedCall, called}
use Rattle.tally.specs.Run.{calls_in, limit_of}
use Rattle.tallied.specs.History.{call_at, first_calls, calls_of, accepted_of}
use Rattle.tallied.proofs.Flat.{Under}

pub all-zero : (k j : ℕ) → ◌≡◌ {A = ℕ} (get_or (replicate k 0) j 0) 0
all-zero zero j = refl
all-zero (suc k) zero = refl
all-zero (suc k) (suc j) = all-zero k j

-- a row whose calls have arguments of their types, and so few of them
record Fits (says : Row) : Type 0 where
  typed : (i : ℕ) → TypedCall (call_at says i)
  few : calls_in says ≤ 65535

row_fits : (b : List ℕ) → Bytes b → Fits (row_of b)
unfolding fields_of
row_fits b small =
    let byte : (i : ℕ) → Byte (byte_at b i) = λ i. byte_fits b i small in
    let word = field_below b (λ j. byte_fits b j small) 2 in
    let none : Fits Broken = record { typed = λ i. tt; few = omega arith } in
    pick_elim Fits (formed_row b)
    (find_elim Fits (field_table b) (byte_at b 0) (
      record { typed = λ i. pick_elim Byte (eqb i 0) (byte 3) (omega arith); few = omega (arith, word 1) },
      (
        record { typed = λ i. (byte 1, word 2); few = omega arith },
        (
          record { typed = λ i. (byte 1, word 2, byte 4); few = omega arith },
          (
            record { typed = λ i. (byte 1, word 2); few = omega arith },
            (
              record { typed = λ i. byte 1; few = omega arith },
              (
                record { typed = λ i. (word 2, byte 4); few = omega arith },
                (
                  record { typed = λ i. tt; few = omega (arith, word 1) },
                  tt,
                ),
              ),
            ),
          ),
        ),
      ),
    ) none) none

pub all_append : (a b : List Call) → AllOf TypedCall a → AllOf TypedCall b → AllOf TypedCall (a ++ b)
all_append [] b p q = q
all_append (c ∷ a) b p q = (p.0, all_append a b p.1 q)

module _ (script : List ℕ) (bytes : Bytes script) where
  row_at-fits : (r : ℕ) → Fits (row_at script r)
  row_at-fits r = row_fits (row_bytes script r) (part_bytes script (r * 8) 8 bytes)

  pub calls-small : (limits : List ℕ) → Under 65535 limits → (n r : ℕ) → r < n → limit_of limits r (row_at script r) ≤ 65535
  calls-small limits u n r h = pick_elim (λ (k : ℕ). k ≤ 65535) (ltb r (length limits)) (u r) (row_at-fits r).few

  pub call-typed : (r i : ℕ) → TypedCall (call_at (row_at script r) i)
  call-typed r i = (row_at-fits r).typed i

  firsts-typed : (r i : ℕ) → AllOf TypedCall (first_calls (row_at script r) i)
  unfolding first_calls
  firsts-typed r zero = tt
  firsts-typed r (suc i) = all_append (first_calls (row_at script r) i) _ (firsts-typed r i) (call-typed r i, tt)

  all_typed : (n : ℕ) → AllOf TypedCall (calls_of script [] n)
  unfolding calls_of
  all_typed zero = tt
  all_typed (suc n) = all_append (calls_of script [] n) _ (all_typed n) (firsts-typed n _)

  -- and so have those before the first that is refused
  accepted-typed : (rom : List ℕ) (d : Desk) (cs : List Call) → AllOf TypedCall cs → AllOf TypedCall (accepted_of rom d cs)
  unfolding accepted_of
  accepted-typed rom d [] t = tt
  accepted-typed rom d (c ∷ cs) t =
      pick_elim (AllOf TypedCall) (eqb (called rom c d).number 0) (t.0, accepted-typed rom (called rom c d).desk cs t.1) tt

  pub typed-calls : (rom : List ℕ) (d : Desk) (n : ℕ) → AllOf TypedCall (accepted_of rom d (calls_of script [] n))
  typed-calls rom d n = accepted-typed rom d (calls_of script [] n) (all_typed n)
