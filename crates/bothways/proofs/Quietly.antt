-- Text before whose characters nothing is completed and no file name is read: only the last one can add to a buffer.
use Prim.Native.Nat.{ℕ}
use mathlib.Core.Bool.{Bool, true, false, not, ◌&&◌, false≢true, and-eq-true_iff}
use mathlib.Core.List.{List, [], ◌∷◌}
use mathlib.Core.Path.{◌≡◌, refl, sym, ap, ◌∙◌}
use Rattle.common.specs.Pick.{pick}
use Rattle.append.specs.Sheet.{Sheet, puts}
use Rattle.reader.specs.declared.reader.Reader.{Reader}
use Rattle.reader.specs.{Word.blank_word, Draft.draft}
use Rattle.reader.specs.Reader.{reader, read_of, reads}
use Rattle.assembler.specs.Desk.{State, made, front_of, rom_of, script_of, added, stepped, runs}
use Rattle.reader.specs.declared.kinds.Emit.{Emit}
use Rattle.reader.specs.declared.kinds.Phase.TheVariants as phases
use Rattle.reader.specs.declared.kinds.Expected.TheVariants as wants
use Rattle.reader.specs.declared.kinds.Kind.TheVariants as kinds
use Rattle.reader.specs.declared.kinds.Emit.TheVariants as emits
use Rattle.reader.specs.declared.word.Form.TheVariants as forms
use Rattle.reader.specs.declared.draft.Draft.{Draft}
use Rattle.reader.specs.Draft.{has_failed}
use Rattle.reader.specs.Line.{fresh}
use Rattle.reader.specs.Word.{in_name}

-- no reader of a text is this: only a line's end completes a row, and behind it a line is expected
abbrev pub loud : Reader
loud = reader (blank_word forms.Between) (draft phases.Nothing wants.End kinds.Nothing 0 0 0 0 emits.Row)

abbrev pub row_by : Emit → Bool
row_by emits.Row = true
row_by _ = false

-- a row is completed, and its line goes on
abbrev pub is_loud : Draft → Bool
is_loud d = row_by d.emit && not (fresh d.expected)

-- a reader that has failed
abbrev pub failing : Reader
failing = reader (blank_word forms.Between) (draft phases.Nothing wants.Line kinds.Nothing 0 0 0 0 emits.Failed)

abbrev pub silent_by : Emit → Bool
silent_by emits.Nothing = true
silent_by _ = false

is_nothing : (e : Emit) → silent_by e ≡ true → e ≡ emits.Nothing
is_nothing emits.Nothing h = refl
is_nothing _ h = absurd (false≢true h)

-- nothing was completed, and no file name is being read
abbrev pub calm : Reader → Bool
calm r = silent_by r.draft.emit && not (in_name r.word)

-- reads, where each reader before a character is calm; a mark elsewhere
unfoldable pub quietly_or : Reader → Reader → List ℕ → Reader
quietly_or m r [] = r
quietly_or m r (c ∷ t) = pick (calm r) (quietly_or m (read_of r c) t) m

-- with the mark that no text gives
abbrev pub quietly : Reader → List ℕ → Reader
quietly r t = quietly_or loud r t

-- a character adds what it completes
pub one : (file : List ℕ) (f o s : Sheet) (r : Reader) (c : ℕ) → stepped file (made r f o s) c ≡ added file f o s (read_of r c)
unfolding stepped
one file f o s r c = refl

-- a test of the draft tells two readers apart
told-apart : (test : Draft → Bool) (m q : Reader) → test m.draft ≡ true → test q.draft ≡ false → {A : Type 0} → m ≡ q → A
told-apart test m q marked fine e = absurd (false≢true (sym fine ∙ ap (λ (r : Reader). test r.draft) (sym e) ∙ marked))

-- a reader whose line is over, or that completes no row, is not loud
pub not-loud : (q : Reader) → is_loud q.draft ≡ false → {A : Type 0} → loud ≡ q → A
not-loud q fine e = told-apart is_loud loud q refl fine e

-- one that has not failed is not failing
pub not-failing : (q : Reader) → has_failed q.draft ≡ false → {A : Type 0} → failing ≡ q → A
not-failing q fine e = told-apart has_failed failing q refl fine e

-- the reader q that a text ends in is not the mark m
module _ {m q : Reader} (apart : m ≡ q → ⊥) where
  -- where it is read on, the reader before was calm
  quiet_read : (P : Bool → Type 0) (b : Bool) (r : Reader) (t : List ℕ) → (quietly_or m r t ≡ q → P true) → pick b (quietly_or m r t) m ≡ q → P b
  quiet_read P true r t ih e = ih e
  quiet_read P false r t ih e = absurd (apart e)

  -- such a text is read
  pub quietly-reads : (r : Reader) (t : List ℕ) → quietly_or m r t ≡ q → reads r t ≡ q
  unfolding quietly_or reads
  quietly-reads r [] h = h
  quietly-reads r (c ∷ t) h = quiet_read (λ b. reads (read_of r c) t ≡ q) (calm r) (read_of r c) t (λ e. quietly-reads (read_of r c) t e) h

  -- and adds what its last character completes
  module _ (file : List ℕ) (f o s : Sheet) where
    silent : (r : Reader) → r.draft.emit ≡ emits.Nothing → added file f o s r ≡ made r f o s
    unfolding front_of rom_of script_of puts
    silent r e = rw e

    quiet-run : (r : Reader) (c : ℕ) (t : List ℕ) (b : Bool) → calm r ≡ b
        → (quietly_or m (read_of r c) t ≡ q → runs file (added file f o s (read_of r c)) t ≡ added file f o s q)
        → pick b (quietly_or m (read_of r c) t) m ≡ q
        → runs file (stepped file (added file f o s r) c) t ≡ added file f o s q
    quiet-run r c t true z ih e =
        ap (λ (k : State). runs file (stepped file k c) t) (silent r (is_nothing r.draft.emit ((and-eq-true_iff (silent_by r.draft.emit) (not (in_name r.word))).0 z).0))
        ∙ ap (λ (k : State). runs file k t) (one file f o s r c)
        ∙ ih e
    quiet-run r c t false z ih e = absurd (apart e)

    pub quietly-runs : (r : Reader) (t : List ℕ) → quietly_or m r t ≡ q → runs file (added file f o s r) t ≡ added file f o s q
    unfolding quietly_or runs
    quietly-runs r [] h = ap (added file f o s) h
    quietly-runs r (c ∷ t) h = quiet-run r c t (calm r) refl (λ e. quietly-runs (read_of r c) t e) h

  -- and is read quietly with any other mark
  pub quietly-any : (n r : Reader) (t : List ℕ) → quietly_or m r t ≡ q → quietly_or n r t ≡ q
  unfolding quietly_or
  quietly-any n r [] h = h
  quietly-any n r (c ∷ t) h =
      quiet_read (λ b. pick b (quietly_or n (read_of r c) t) n ≡ q) (calm r) (read_of r c) t (λ e. quietly-any n (read_of r c) t e) h
