-- The rows of a script, one by one.
use Prim.Native.Nat.{ℕ, zero, suc, ◌*◌, ◌/◌, ◌%◌, ◌≤◌, ◌<◌}
use mathlib.Core.Bool.{Bool, true, false, and-eq-true_iff}
use mathlib.Core.List.{List}
use mathlib.Core.Logic.{◌↔◌, ⊎_elim}
use mathlib.Core.Path.{◌≡◌, refl, sym}
use native.Mathlib.Nat.{eq-or-lt_of_le}
use native.Mathlib.Omega.{arith}
use lib.Dec.{eqb}
use lib.ListN.{length, length-take, length-drop}
use borrow.Author.Tests.{eq-eqb, ne_eqb, eqb-true}
use Rattle.benchfile.specs.declared.row.Row.TheVariants.{Broken}
use Rattle.benchfile.specs.Row.{form_table, formed_row, row_bytes, row_at}
use Rattle.common.specs.Table.{find}
use denote.Ref.{Bor}
use Rattle.std.specs.declared.option.Option.{Option, TheVariants.Some, TheVariants.None}
use Rattle.std.specs.Prelude.{IfSome, slice_index_or}
use Rattle.std.specs.Option.{option_map}
use Rattle.std.specs.List.{IsSubsliceAt}
use Rattle.std.specs.Iterator.Runs.{Run, AllItems, IsChunksRun}
use Rattle.std.proofs.lemmas.Option.{none-some}
use Rattle.fields.specs.Bytes.{byte_at}
use Rattle.benchfile.specs.File.{rows_formed, script_formed}
use Rattle.benchfile.proofs.Zeros.{same}

module _ (s : List ℕ) where
  -- where the first n rows are well formed, so is each
  pub each : (n i : ℕ) → i < n → rows_formed s n ≡ true → formed_row (row_bytes s i) ≡ true
  unfolding rows_formed
  each zero i h p = absurd (omega arith)
  each (suc n) i h p =
      let q = (and-eq-true_iff (rows_formed s n) (formed_row (row_bytes s n))).0 p in
      let l : i ≤ n = omega arith in
      ⊎_elim (λ (e : i ≡ n). rw e q.1) (λ (m : i < n). each n i m q.0) (eq-or-lt_of_le l)

  pub all : (n : ℕ) → ((i : ℕ) → i < n → formed_row (row_bytes s i) ≡ true) → rows_formed s n ≡ true
  unfolding rows_formed
  all zero h = refl
  all (suc n) h = rw (all n (λ i l. h i (omega arith)), h n (omega arith))

  -- there is no row past the last whole one
  pub past : (i : ℕ) → length s / 8 ≤ i → row_at s i ≡ Broken
  unfolding formed_row
  past i h =
      let short : length (row_bytes s i) ≡ 8 → ⊥ = λ e. omega (arith, simp (length-take, length-drop) at e) in
      rw (ne_eqb (length (row_bytes s i)) 8 short)

  -- what a well-formed script is: whole rows, each well formed
  pub script : script_formed s ≡ true → (length s % 8 ≡ 0) × ((i : ℕ) → i < length s / 8 → formed_row (row_bytes s i) ≡ true)
  unfolding script_formed
  script h =
      let p = (and-eq-true_iff (eqb (length s % 8) 0) (rows_formed s (length s / 8))).0 h in
      (eqb-true (length s % 8) 0 p.0, λ i l. each (length s / 8) i l p.1)

module _ (s : List ℕ) (rows : length s % 8 ≡ 0) where
  pub whole : (i : ℕ) → i ≤ length s / 8 → length s / 8 ≤ i → rows_formed s i ≡ true → script_formed s ≡ true
  unfolding script_formed
  whole i h k p = let e : length s / 8 ≡ i = omega arith in rw (eq-eqb (length s % 8) 0 rows, e) p

-- a row of another length is not well formed
long : (b : List ℕ) → formed_row b ≡ true → length b ≡ 8
unfolding formed_row
long b h = eqb-true (length b) 8 ((and-eq-true_iff (eqb (length b) 8) (find (form_table b) (byte_at b 0) false)).0 h).0

module _ (s : List ℕ) where
  -- each chunk of 8 bytes is a well-formed row; the last may be shorter, and is none
  abbrev pub Chunks : Type 0
  Chunks = (i : ℕ) → i * 8 < length s → formed_row (row_bytes s i) ≡ true

  evenly : Chunks → length s % 8 ≡ 0
  evenly h =
      let over : 0 < length s % 8 → length s % 8 ≡ 0 = λ m.
      let e = long (row_bytes s (length s / 8)) (h (length s / 8) (omega arith)) in
      absurd (omega (arith, simp (length-take, length-drop) at e)) in
      ⊎_elim sym over (eq-or-lt_of_le (omega arith))

  -- a test that holds exactly there
  pub judged : (r : Bool) → (r ≡ true) ↔ Chunks → r ≡ script_formed s
  judged r h =
      let down : r ≡ true → script_formed s ≡ true =
      λ e. whole s (evenly (h.0 e)) (length s / 8) (omega arith) (omega arith) (all s (length s / 8) (λ i l. h.0 e i (omega arith))) in
      let up : script_formed s ≡ true → r ≡ true =
      λ e. h.1 (λ i m. (script s e).1 i (omega (arith, (script s e).0))) in
      same r (script_formed s) down up

  found : (o : Option (Bor (List ℕ))) (y : Bor (List ℕ)) (i : ℕ) → option_map (λ x. x) o ≡ Some y
      → IfSome o (λ x. (0 < length x.now) × (i * 8 < length s) × IsSubsliceAt 8 s (i * 8) x.now)
      → IfSome o (λ x. formed_row x.now ≡ true) → formed_row (row_bytes s i) ≡ true
  found None y i e h k = absurd (none-some y e)
  found (Some x) y i e h k = rw h.2.0 at k

  -- a run over the chunks, in which each was found well formed
  pub ran : {S : Type 0} {steps : S → Option (Bor (List ℕ)) → S → Type 0} (p : Run steps) → Bor (List ℕ) → IsChunksRun p 8 s
      → p.whole ≡ true → AllItems p (λ x. formed_row x.now ≡ true) → Chunks
  ran p d cut w k i l =
      let n = cut.1 w in
      let m : i < p.len = omega (arith, n) in
      found (p.at i) (slice_index_or p.items i d) i (p.reads i d m) (cut.2 i) (k i)
