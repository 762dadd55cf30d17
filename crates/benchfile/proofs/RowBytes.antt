-- A row and its bytes, there and back.
use Prim.Native.Nat.{ℕ, ◌%◌, ◌<◌}
use mathlib.Core.Bool.{true, false, ◌&&◌, and-true, and-eq-true_iff}
use mathlib.Core.List.{List, [], ◌∷◌}
use mathlib.Core.Path.{◌≡◌, refl, sym, subst, ◌∙◌}
use native.Mathlib.Omega.{arith}
use mathlib.Core.Logic.{inl, inr}
use lib.ListN.{length}
use lib.Seq.{take_all}
use lib.Dec.{leb, eqb}
use borrow.Author.Tests.{leb-true, eqb-true}
use Rattle.common.specs.{Pick.pick, Table.find, Width.Bytes}
use Rattle.benchfile.specs.declared.row.Row.{Row}
use Rattle.benchfile.specs.declared.row.Row.TheVariants.{Cycles, Read, Write, Pad, Plug, Answer, Back, Broken}
use Rattle.common.proofs.{AllLaws.byte_fits, TableLaws.pick_elim, TableLaws.find_elim}
use Rattle.fields.specs.{Little.span, Little.field, Bytes.byte_at}
use Rattle.fields.proofs.{Flag.flag-back, Number.number, Number.field_below, Parts.listed}
use Rattle.benchfile.specs.Row.{zeros, form_table, formed_row, field_table, fields_of, row_of, bytes_of, FitRow, lawful}
use Rattle.benchfile.proofs.Numbers.{lo_back, hi-back, flags-small, due-back, timer-back, flags-back}
use Rattle.benchfile.proofs.{Zeros.are, Found.Holds, Found.found}

pub eight : (r : Row) → length (bytes_of r) ≡ 8
unfolding bytes_of
eight (Cycles n event due timer) = refl
eight (Read bank a) = refl
eight (Write bank a x) = refl
eight (Pad port w) = refl
eight (Plug port on) = refl
eight (Answer a x) = refl
eight (Back n) = refl
eight Broken = refl

-- the bytes of a row keep the form exactly where the row can stand in a script
pub formed-bytes : (r : Row) → FitRow r → formed_row (bytes_of r) ≡ lawful r
unfolding bytes_of formed_row
formed-bytes (Cycles n event due timer) h = simp (number 2 n h, flags-small due timer, and-true)
formed-bytes (Read bank a) h = refl
formed-bytes (Write bank a x) h = refl
formed-bytes (Pad port w) h = refl
formed-bytes (Plug port true) h = refl
formed-bytes (Plug port false) h = refl
formed-bytes (Answer a x) h = refl
formed-bytes (Back n) h = simp (number 2 n h, and-true)
formed-bytes Broken h = refl

-- every row comes back from its bytes
pub fields-bytes : (r : Row) → FitRow r → fields_of (bytes_of r) ≡ r
unfolding bytes_of fields_of
fields-bytes (Cycles n event due timer) h = simp (number 2 n h, due-back due timer, timer-back due timer)
fields-bytes (Read bank a) h = simp (number 2 a h)
fields-bytes (Write bank a x) h = simp (number 2 a h)
fields-bytes (Pad port w) h = simp (number 2 w h)
fields-bytes (Plug port true) h = refl
fields-bytes (Plug port false) h = refl
fields-bytes (Answer a x) h = simp (number 2 a h)
fields-bytes (Back n) h = simp (number 2 n h)
fields-bytes Broken h = refl

-- a row that can stand in a script comes back from its bytes; the bytes of another are broken
pub row-bytes : (r : Row) → FitRow r → row_of (bytes_of r) ≡ pick (lawful r) r Broken
row-bytes r h = rw (formed-bytes r h, fields-bytes r h)

-- the row of bytes fits
pub row_fits : (b : List ℕ) → Bytes b → FitRow (row_of b)
unfolding fields_of
row_fits b small =
    let w = field_below b (λ i. byte_fits b i small) 2 in
    pick_elim FitRow (formed_row b) (find_elim FitRow (field_table b) (byte_at b 0) (w 1, (w 2, (w 2, (w 2, (tt {0}, (w 2, (w 1, tt {0}))))))) (tt {0})) (tt {0})

module _ (b₀ b₁ b₂ b₃ b₄ b₅ b₆ b₇ : ℕ) (l₁ : b₁ < 256) (l₂ : b₂ < 256) (l₃ : b₃ < 256) where
  abbrev given : List ℕ
  given = b₀ ∷ b₁ ∷ b₂ ∷ b₃ ∷ b₄ ∷ b₅ ∷ b₆ ∷ b₇ ∷ []

  low₂ : b₂ % 256 ≡ b₂
  low₂ = omega arith

  low₃ : b₃ % 256 ≡ b₃
  low₃ = omega arith

  of_kind : Holds (form_table given) b₀ → bytes_of (fields_of given) ≡ given
  unfolding fields_of bytes_of
  of_kind (inl (k, h)) =
      let p = (and-eq-true_iff (leb 1 (field 2 given 1) && leb b₄ 3) (zeros given 5)).0 h in
      let q = (and-eq-true_iff (leb 1 (field 2 given 1)) (leb b₄ 3)).0 p.0 in
      let e : b₀ ≡ 1 = k in
      rw (e, are (b₅ ∷ b₆ ∷ b₇ ∷ []) p.1, lo_back b₁ b₂ l₁, hi-back b₁ b₂ l₁, low₂, flags-back b₄ (leb-true b₄ 3 q.1))
  of_kind (inr (inl (k, h))) =
      let e : b₀ ≡ 2 = k in
      rw (e, are (b₄ ∷ b₅ ∷ b₆ ∷ b₇ ∷ []) h, lo_back b₂ b₃ l₂, hi-back b₂ b₃ l₂, low₃)
  of_kind (inr (inr (inl (k, h)))) =
      let e : b₀ ≡ 3 = k in
      rw (e, are (b₅ ∷ b₆ ∷ b₇ ∷ []) h, lo_back b₂ b₃ l₂, hi-back b₂ b₃ l₂, low₃)
  of_kind (inr (inr (inr (inl (k, h))))) =
      let e : b₀ ≡ 4 = k in
      rw (e, are (b₄ ∷ b₅ ∷ b₆ ∷ b₇ ∷ []) h, lo_back b₂ b₃ l₂, hi-back b₂ b₃ l₂, low₃)
  of_kind (inr (inr (inr (inr (inl (k, h)))))) =
      let p = (and-eq-true_iff (leb b₂ 1) (zeros given 3)).0 h in
      let e : b₀ ≡ 5 = k in
      rw (e, are (b₃ ∷ b₄ ∷ b₅ ∷ b₆ ∷ b₇ ∷ []) p.1, flag-back b₂ (leb-true b₂ 1 p.0))
  of_kind (inr (inr (inr (inr (inr (inl (k, h))))))) =
      let p = (and-eq-true_iff (eqb b₁ 0) (zeros given 5)).0 h in
      let e : b₀ ≡ 6 = k in
      rw (e, eqb-true b₁ 0 p.0, are (b₅ ∷ b₆ ∷ b₇ ∷ []) p.1, lo_back b₂ b₃ l₂, hi-back b₂ b₃ l₂, low₃)
  of_kind (inr (inr (inr (inr (inr (inr (inl (k, h)))))))) =
      let p = (and-eq-true_iff (leb 1 (field 2 given 1)) (zeros given 3)).0 h in
      let e : b₀ ≡ 7 = k in
      rw (e, are (b₃ ∷ b₄ ∷ b₅ ∷ b₆ ∷ b₇ ∷ []) p.1, lo_back b₁ b₂ l₁, hi-back b₁ b₂ l₁, low₂)
  of_kind (inr (inr (inr (inr (inr (inr (inr n))))))) = absurd n

module _ (b : List ℕ) where
  -- well-formed bytes come back from their row
  pub bytes-row : Bytes b → formed_row b ≡ true → bytes_of (row_of b) ≡ b
  unfolding formed_row
  bytes-row small h =
      let p = (and-eq-true_iff (eqb (length b) 8) (find (form_table b) (byte_at b 0) false)).0 h in
      let n : length b ≡ 8 = eqb-true (length b) 8 p.0 in
      let e : span 8 b 0 ≡ b = sym (listed 8 b 0 (omega arith)) ∙ take_all 8 b (omega arith) in
      let kept : Holds (form_table b) (byte_at b 0) = found (form_table b) (byte_at b 0) p.1 in
      let spread : Holds (form_table (span 8 b 0)) (byte_at b 0) = subst (λ (l : List ℕ). Holds (form_table l) (byte_at l 0)) (sym e) kept in
      let back = of_kind (byte_at b 0) (byte_at b 1) (byte_at b 2) (byte_at b 3) (byte_at b 4) (byte_at b 5) (byte_at b 6) (byte_at b 7) (byte_fits b 1 small) (byte_fits b 2 small) (byte_fits b 3 small) spread in
      rw h (subst (λ (l : List ℕ). bytes_of (fields_of l) ≡ l) e back)
