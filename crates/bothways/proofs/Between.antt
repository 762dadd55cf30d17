-- Between two lines: a line starts anew whatever the line before completed, and what a line without bytes of a fill or a ROM adds.
use Prim.Native.Nat.{ℕ}
use mathlib.Core.Bool.{true, false, false≢true}
use mathlib.Core.List.{List, [], ◌∷◌}
use mathlib.Core.Path.{◌≡◌, refl, sym, ap, ◌∙◌}
use Rattle.append.specs.Sheet.{Sheet, puts}
use Rattle.fields.specs.Bytes.{byte_at}
use Rattle.common.specs.Width.{Bytes}
use Rattle.benchfile.specs.Row.{formed_row}
use Rattle.reader.specs.declared.reader.Reader.{Reader}
use Rattle.reader.specs.Reader.{read_of, reads}
use Rattle.lister.specs.Row.{row_text}
use Rattle.assembler.specs.Desk.{State, front_of, rom_of, script_of, stepped, runs, made, added}
use Rattle.bothways.proofs.Quietly.{quietly_or, not-loud, quietly-reads, quietly-runs}
use Rattle.bothways.proofs.{Rows.Open, Rows.before, Row.row-quiet, Row.row-added}
use Rattle.reader.specs.declared.kinds.{Phase.Phase, Kind.Kind, Emit.Emit}
use Rattle.reader.specs.declared.kinds.Phase.TheVariants as phases
use Rattle.reader.specs.declared.kinds.Emit.TheVariants as emits
use Rattle.reader.specs.Draft.{failed_by}
use Rattle.bothways.proofs.RowKind.{kind_at}
use Rattle.bothways.proofs.Quietly.{silent_by}

-- behind a line's end: a reader that has not failed, in phase p, and the three buffers
pub record Rest (p : Phase) (f o s : Sheet) (k : State) : Type 0 where
  pub kind : Kind
  pub b1 : ℕ
  pub b2 : ℕ
  pub b3 : ℕ
  pub b4 : ℕ
  pub emit : Emit
  pub fine : failed_by emit ≡ false
  pub is : k ≡ made (before p kind b1 b2 b3 b4 emit) f o s

module _ (p : Phase) (k : Kind) (x₁ x₂ x₃ x₄ : ℕ) (e : Emit) (ok : failed_by e ≡ false) where
  pub quieted : (c : ℕ) → read_of (before p k x₁ x₂ x₃ x₄ e) c ≡ read_of (before p k x₁ x₂ x₃ x₄ emits.Nothing) c
  unfolding read_of
  quieted c = rw ok

  module _ {m q : Reader} (apart : m ≡ q → ⊥) where
    pub line_reads : (c : ℕ) (t : List ℕ) → quietly_or m (before p k x₁ x₂ x₃ x₄ emits.Nothing) (c ∷ t) ≡ q → reads (before p k x₁ x₂ x₃ x₄ e) (c ∷ t) ≡ q
    unfolding quietly_or reads
    line_reads c t h = ap (λ (r : Reader). reads r t) (quieted c) ∙ quietly-reads apart (read_of (before p k x₁ x₂ x₃ x₄ emits.Nothing) c) t h

    module _ (file : List ℕ) (f o s : Sheet) where
      first : (c : ℕ) → stepped file (made (before p k x₁ x₂ x₃ x₄ e) f o s) c ≡ added file f o s (read_of (before p k x₁ x₂ x₃ x₄ emits.Nothing) c)
      unfolding stepped
      first c = ap (added file f o s) (quieted c)

      pub line-runs : (c : ℕ) (t : List ℕ) → quietly_or m (before p k x₁ x₂ x₃ x₄ emits.Nothing) (c ∷ t) ≡ q
          → runs file (made (before p k x₁ x₂ x₃ x₄ e) f o s) (c ∷ t) ≡ added file f o s q
      unfolding quietly_or runs
      line-runs c t h = ap (λ (x : State). runs file x t) (first c) ∙ quietly-runs apart file f o s (read_of (before p k x₁ x₂ x₃ x₄ emits.Nothing) c) t h

    -- a text that completes something is not empty
    module _ (some : silent_by q.draft.emit ≡ false) where
      nothing : {A : Type 0} → quietly_or m (before p k x₁ x₂ x₃ x₄ emits.Nothing) [] ≡ q → A
      unfolding quietly_or
      nothing h = absurd (false≢true (sym some ∙ ap (λ (r : Reader). silent_by r.draft.emit) (sym h)))

      pub text-reads : (t : List ℕ) → quietly_or m (before p k x₁ x₂ x₃ x₄ emits.Nothing) t ≡ q → reads (before p k x₁ x₂ x₃ x₄ e) t ≡ q
      text-reads [] h = nothing h
      text-reads (c ∷ t) h = line_reads c t h

      pub text-runs : (file : List ℕ) (f o s : Sheet) (t : List ℕ) → quietly_or m (before p k x₁ x₂ x₃ x₄ emits.Nothing) t ≡ q
          → runs file (made (before p k x₁ x₂ x₃ x₄ e) f o s) t ≡ added file f o s q
      text-runs file f o s [] h = nothing h
      text-runs file f o s (c ∷ t) h = line-runs file f o s c t h

-- reading what list writes of a well-formed row gives its kind and fields, and completes a row
pub row_back : (k : Kind) (x₁ x₂ x₃ x₄ : ℕ) (e : Emit) → failed_by e ≡ false → (p : Phase) → Open p → (b : List ℕ) → Bytes b → formed_row b ≡ true
    → reads (before p k x₁ x₂ x₃ x₄ e) (row_text b) ≡ before phases.Rows (kind_at (byte_at b 0)) (byte_at b 1) (byte_at b 2) (byte_at b 3) (byte_at b 4) emits.Row
row_back k x₁ x₂ x₃ x₄ e ok p o b small h =
    text-reads p k x₁ x₂ x₃ x₄ e ok (not-loud (before phases.Rows (kind_at (byte_at b 0)) (byte_at b 1) (byte_at b 2) (byte_at b 3) (byte_at b 4) emits.Row) refl) refl (row_text b)
    (row-quiet k x₁ x₂ x₃ x₄ p o b small h)

-- the line of a row adds its 8 bytes to the script
module _ (file : List ℕ) (f o s : Sheet) (b : List ℕ) (small : Bytes b) (h : formed_row b ≡ true) where
  abbrev done : Reader
  done = before phases.Rows (kind_at (byte_at b 0)) (byte_at b 1) (byte_at b 2) (byte_at b 3) (byte_at b 4) emits.Row

  only : added file f o s done ≡ made done f o (puts s (script_of done.draft))
  unfolding front_of rom_of puts
  only = refl

  pub row_line : (p : Phase) → Open p → (k : State) → Rest p f o s k → Rest phases.Rows f o (puts s b) (runs file k (row_text b))
  row_line p may k r =
      record {
        kind = kind_at (byte_at b 0);
        b1 = byte_at b 1;
        b2 = byte_at b 2;
        b3 = byte_at b 3;
        b4 = byte_at b 4;
        emit = emits.Row;
        fine = refl;
        is =
            ap (λ (x : State). runs file x (row_text b)) r.is
            ∙ text-runs p r.kind r.b1 r.b2 r.b3 r.b4 r.emit r.fine (not-loud done refl) refl file f o s (row_text b)
            (row-quiet r.kind r.b1 r.b2 r.b3 r.b4 p may b small h)
            ∙ only
            ∙ ap (λ (l : List ℕ). made done f o (puts s l)) (row-added b small h);
      }
