-- Every row of document 01's form comes back from its line of text.
use Prim.Native.Nat.{ℕ, zero, suc, ◌≤◌, ◌<◌}
use mathlib.Core.Bool.{Bool, true, false, ◌&&◌, and-eq-true_iff}
use mathlib.Core.List.{List, [], ◌∷◌}
use mathlib.Core.Logic.{inl, inr}
use mathlib.Core.Path.{◌≡◌, refl, sym, subst, ◌∙◌}
use native.Mathlib.Omega.{arith}
use lib.ListN.{length}
use lib.Seq.{take_all}
use lib.Dec.{leb, eqb}
use borrow.Author.Tests.{leb-true, eqb-true}
use Rattle.common.proofs.AllLaws.{byte_fits}
use Rattle.common.specs.{Table.find, Width.Bytes}
use Rattle.fields.specs.{Bytes.byte_at, Little.span, Little.field}
use Rattle.benchfile.specs.declared.row.Row.{Row}
use Rattle.benchfile.specs.declared.row.Row.TheVariants.{Cycles, Read, Write, Pad, Plug, Answer, Back, Broken}
use Rattle.benchfile.specs.Row.{all_zero, zeros, form_table, formed_row, row_of, bytes_of}
use Rattle.benchfile.proofs.{RowBytes.bytes-row, Found.Holds, Found.found, Numbers.lo_back, Numbers.hi-back}
use Rattle.reader.specs.Draft.{draft, kind_number}
use Rattle.assembler.specs.Desk.{script_of}
use Rattle.fields.proofs.Parts.{listed}
use Rattle.bothways.proofs.Quietly.{quietly}
use Rattle.lister.specs.Row.{row_text}
use Rattle.bothways.proofs.Rows.{Open, before, read_back, write-back, answer_back}
use Rattle.bothways.proofs.Counts.{bit, back-back, pad-back, plug-back}
use Rattle.bothways.proofs.Cycles as cycles
use Rattle.reader.specs.declared.kinds.{Phase.Phase, Kind.Kind}
use Rattle.reader.specs.declared.kinds.Phase.TheVariants as phases
use Rattle.reader.specs.declared.kinds.Expected.TheVariants as wants
use Rattle.reader.specs.declared.kinds.Emit.TheVariants as emits
use Rattle.bothways.proofs.RowKind.{kind_at}

flags_of : (f : ℕ) → f ≤ 3 → cycles.Flags f
flags_of zero h = cycles.none
flags_of (suc zero) h = cycles.line
flags_of (suc (suc zero)) h = cycles.timer
flags_of (suc (suc (suc zero))) h = cycles.both
flags_of (suc (suc (suc (suc n)))) h = absurd (omega arith)

bit_of : (x : ℕ) → x ≤ 1 → (b : Bool) × (bit b ≡ x)
bit_of zero h = (false, refl)
bit_of (suc zero) h = (true, refl)
bit_of (suc (suc n)) h = absurd (omega arith)

module _ (k : Kind) (x₁ x₂ x₃ x₄ : ℕ) (p : Phase) (o : Open p) where
  module _ (b₀ b₁ b₂ b₃ b₄ b₅ b₆ b₇ : ℕ) (l₁ : b₁ < 256) (l₂ : b₂ < 256) (l₃ : b₃ < 256) (l₄ : b₄ < 256) where
    abbrev given : List ℕ
    given = b₀ ∷ b₁ ∷ b₂ ∷ b₃ ∷ b₄ ∷ b₅ ∷ b₆ ∷ b₇ ∷ []

    -- the first of bytes that are all zero
    head : (x : ℕ) (l : List ℕ) → all_zero (x ∷ l) ≡ true → x ≡ 0
    head x l h = eqb-true x 0 ((and-eq-true_iff (eqb x 0) (all_zero l)).0 h).0

    second : (x y : ℕ) (l : List ℕ) → all_zero (x ∷ y ∷ l) ≡ true → y ≡ 0
    second x y l h = head y l ((and-eq-true_iff (eqb x 0) (all_zero (y ∷ l))).0 h).1

    of_kind : Holds (form_table given) b₀ → quietly (before p k x₁ x₂ x₃ x₄ emits.Nothing) (row_text given) ≡ before phases.Rows (kind_at b₀) b₁ b₂ b₃ b₄ emits.Row
    unfolding row_text
    of_kind (inl (q, h)) =
        let r = (and-eq-true_iff (leb 1 (field 2 given 1) && leb b₄ 3) (zeros given 5)).0 h in
        let s = (and-eq-true_iff (leb 1 (field 2 given 1)) (leb b₄ 3)).0 r.0 in
        let z : b₀ ≡ 1 = q in
        let c = cycles.cycles-back (field 2 given 1) b₃ b₄ (leb-true 1 (field 2 given 1) s.0) (omega arith) l₃ (flags_of b₄ (leb-true b₄ 3 s.1)) k x₁ x₂ x₃ x₄ p o in
        rw z (c ∙ rw (lo_back b₁ b₂ l₁, hi-back b₁ b₂ l₁))
    of_kind (inr (inl (q, h))) =
        let z : b₀ ≡ 2 = q in
        let y : b₄ ≡ 0 = head b₄ (b₅ ∷ b₆ ∷ b₇ ∷ []) h in
        rw (z, y) (read_back b₁ b₂ b₃ l₁ l₂ l₃ k x₁ x₂ x₃ x₄ p o)
    of_kind (inr (inr (inl (q, h)))) =
        let z : b₀ ≡ 3 = q in
        rw z (write-back b₁ b₂ b₃ l₁ l₂ l₃ b₄ k x₁ x₂ x₃ x₄ l₄ p o)
    of_kind (inr (inr (inr (inl (q, h))))) =
        let z : b₀ ≡ 4 = q in
        let y : b₄ ≡ 0 = head b₄ (b₅ ∷ b₆ ∷ b₇ ∷ []) h in
        rw (z, y) (pad-back b₁ l₁ b₂ b₃ k x₁ x₂ x₃ x₄ l₂ l₃ p o)
    of_kind (inr (inr (inr (inr (inl (q, h)))))) =
        let r = (and-eq-true_iff (leb b₂ 1) (zeros given 3)).0 h in
        let z : b₀ ≡ 5 = q in
        let y : b₃ ≡ 0 = head b₃ (b₄ ∷ b₅ ∷ b₆ ∷ b₇ ∷ []) r.1 in
        let w : b₄ ≡ 0 = second b₃ b₄ (b₅ ∷ b₆ ∷ b₇ ∷ []) r.1 in
        let s = bit_of b₂ (leb-true b₂ 1 r.0) in
        let t : b₂ ≡ bit s.0 = sym s.1 in
        rw (z, y, w, t) (plug-back b₁ l₁ s.0 k x₁ x₂ x₃ x₄ p o)
    of_kind (inr (inr (inr (inr (inr (inl (q, h))))))) =
        let r = (and-eq-true_iff (eqb b₁ 0) (zeros given 5)).0 h in
        let z : b₀ ≡ 6 = q in
        let y : b₁ ≡ 0 = eqb-true b₁ 0 r.0 in
        rw (z, y) (answer_back 0 b₂ b₃ (omega arith) l₂ l₃ b₄ k x₁ x₂ x₃ x₄ l₄ p o)
    of_kind (inr (inr (inr (inr (inr (inr (inl (q, h)))))))) =
        let r = (and-eq-true_iff (leb 1 (field 2 given 1)) (zeros given 3)).0 h in
        let z : b₀ ≡ 7 = q in
        let y : b₃ ≡ 0 = head b₃ (b₄ ∷ b₅ ∷ b₆ ∷ b₇ ∷ []) r.1 in
        let w : b₄ ≡ 0 = second b₃ b₄ (b₅ ∷ b₆ ∷ b₇ ∷ []) r.1 in
        let c = back-back (field 2 given 1) (leb-true 1 (field 2 given 1) r.0) (omega arith) k x₁ x₂ x₃ x₄ p o in
        rw (z, y, w) (c ∙ rw (lo_back b₁ b₂ l₁, hi-back b₁ b₂ l₁))
    of_kind (inr (inr (inr (inr (inr (inr (inr n))))))) = absurd n

  -- reading what list writes of a well-formed row gives its kind and fields, and completes a row at its end and nothing before
  pub row-quiet : (b : List ℕ) → Bytes b → formed_row b ≡ true
      → quietly (before p k x₁ x₂ x₃ x₄ emits.Nothing) (row_text b) ≡ before phases.Rows (kind_at (byte_at b 0)) (byte_at b 1) (byte_at b 2) (byte_at b 3) (byte_at b 4) emits.Row
  unfolding formed_row
  row-quiet b small h =
      let q = (and-eq-true_iff (eqb (length b) 8) (find (form_table b) (byte_at b 0) false)).0 h in
      let n : length b ≡ 8 = eqb-true (length b) 8 q.0 in
      let w : span 8 b 0 ≡ b = sym (listed 8 b 0 (omega arith)) ∙ take_all 8 b (omega arith) in
      let kept : Holds (form_table b) (byte_at b 0) = found (form_table b) (byte_at b 0) q.1 in
      let spread : Holds (form_table (span 8 b 0)) (byte_at b 0) = subst (λ (l : List ℕ). Holds (form_table l) (byte_at l 0)) (sym w) kept in
      let back = of_kind (byte_at b 0) (byte_at b 1) (byte_at b 2) (byte_at b 3) (byte_at b 4) (byte_at b 5) (byte_at b 6) (byte_at b 7) (byte_fits b 1 small) (byte_fits b 2 small) (byte_fits b 3 small) (byte_fits b 4 small) spread in
      subst (λ (l : List ℕ). quietly (before p k x₁ x₂ x₃ x₄ emits.Nothing) (row_text l) ≡ before phases.Rows (kind_at (byte_at b 0)) (byte_at b 1) (byte_at b 2) (byte_at b 3) (byte_at b 4) emits.Row) w back

-- the bytes behind the fields of a row are zero
ends : (r : Row) → kind_number (kind_at (byte_at (bytes_of r) 0)) ∷ byte_at (bytes_of r) 1 ∷ byte_at (bytes_of r) 2 ∷ byte_at (bytes_of r) 3 ∷ byte_at (bytes_of r) 4 ∷ 0 ∷ 0 ∷ 0 ∷ []
    ≡ bytes_of r
unfolding bytes_of
ends (Cycles n event due timer) = refl
ends (Read bank a) = refl
ends (Write bank a x) = refl
ends (Pad port w) = refl
ends (Plug port on) = refl
ends (Answer a x) = refl
ends (Back n) = refl
ends Broken = refl

-- and what such a line adds to the script is the row itself
pub row-added : (b : List ℕ) → Bytes b → formed_row b ≡ true
    → script_of (draft phases.Rows wants.Line (kind_at (byte_at b 0)) (byte_at b 1) (byte_at b 2) (byte_at b 3) (byte_at b 4) emits.Row) ≡ b
unfolding script_of
row-added b small h =
    subst
    (λ (l : List ℕ). kind_number (kind_at (byte_at l 0)) ∷ byte_at l 1 ∷ byte_at l 2 ∷ byte_at l 3 ∷ byte_at l 4 ∷ 0 ∷ 0 ∷ 0 ∷ [] ≡ l)
    (bytes-row b small h)
    (ends (row_of b))
