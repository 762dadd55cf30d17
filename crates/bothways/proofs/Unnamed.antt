-- Texts without a file name.
use Prim.Native.Nat.{ℕ, ◌+◌}
use mathlib.Core.Bool.{Bool, true, false, not, and-eq-true_iff}
use mathlib.Core.List.{List, [], ◌∷◌, ◌++◌}
use mathlib.Core.Path.{◌≡◌, refl, sym, subst}
use borrow.Author.Tests.{not-true}
use Rattle.common.specs.Pick.{pick}
use Rattle.reader.specs.declared.reader.Reader.{Reader}
use Rattle.reader.specs.Reader.{read_of, reads, until_from, name_at}
use Rattle.assembler.specs.Desk.{State, stepped, runs}
use Rattle.bothways.proofs.Quietly.{calm, quietly_or}
use Rattle.bothways.proofs.{Rows.before, Between.quieted}
use Rattle.reader.specs.declared.kinds.{Phase.Phase, Kind.Kind, Emit.Emit}
use Rattle.reader.specs.declared.kinds.Emit.TheVariants as emits
use Rattle.reader.specs.Draft.{failed_by}
use Rattle.reader.specs.Word.{in_name}
use Rattle.std.specs.Prelude.{Option, Some, None}
use Rattle.bothways.proofs.Quietly.{silent_by}

abbrev pub Unnamed : Reader → List ℕ → Type 0
Unnamed r t = name_at r t ≡ None

abbrev from : ℕ → Reader → List ℕ → Option ℕ
from = until_from (λ r c. in_name r.word)

pub unnamed_none : (r : Reader) → Unnamed r []
unfolding until_from
unnamed_none r = refl

named-not : (b : Bool) (i : ℕ) (o : Option ℕ) → pick b (Some i) o ≡ None → (b ≡ false) × (o ≡ None)
named-not true i o e = absurd (cc)
named-not false i o e = (refl, e)

-- whatever the place of the first character is
moved : (i j : ℕ) (r : Reader) (t : List ℕ) → from i r t ≡ None → from j r t ≡ None
unfolding until_from
moved i j r [] h = refl
moved i j r (c ∷ t) h =
    let s = named-not (in_name r.word) i (from (i + 1) (read_of r c) t) h in
    rw s.0 (moved (i + 1) (j + 1) (read_of r c) t s.1)

-- one character more in front
pub unnamed_next : (r : Reader) (c : ℕ) (t : List ℕ) → in_name r.word ≡ false → Unnamed (read_of r c) t → Unnamed r (c ∷ t)
unfolding until_from
unnamed_next r c t z h = rw z (moved 0 1 (read_of r c) t h)

parts : (r : Reader) (c : ℕ) (t : List ℕ) → Unnamed r (c ∷ t) → (in_name r.word ≡ false) × Unnamed (read_of r c) t
unfolding until_from
parts r c t h =
    let s = named-not (in_name r.word) 0 (from 1 (read_of r c) t) h in
    (s.0, moved 1 0 (read_of r c) t s.1)

-- two texts one after the other
pub unnamed_append : (r : Reader) (a b : List ℕ) → Unnamed r a → Unnamed (reads r a) b → Unnamed r (a ++ b)
unfolding reads
unnamed_append r [] b h g = g
unnamed_append r (c ∷ a) b h g =
    let s = parts r c a h in
    unnamed_next r c (a ++ b) s.0 (unnamed_append (read_of r c) a b s.1 g)

runs-reads : (file : List ℕ) (k : State) (t : List ℕ) → (runs file k t).reader ≡ reads k.reader t
unfolding runs reads stepped
runs-reads file k [] = refl
runs-reads file k (c ∷ t) = runs-reads file (stepped file k c) t

pub unnamed_runs : (file : List ℕ) (k : State) (a b : List ℕ) → Unnamed k.reader a → Unnamed (runs file k a).reader b → Unnamed k.reader (a ++ b)
unnamed_runs file k a b h g = unnamed_append k.reader a b h (subst (λ (r : Reader). Unnamed r b) (runs-reads file k a) g)

-- what is read quietly has no name
module _ {m q : Reader} (apart : m ≡ q → ⊥) where
  quiet_step : (r : Reader) (c : ℕ) (t : List ℕ) (b : Bool) → calm r ≡ b → (quietly_or m (read_of r c) t ≡ q → Unnamed (read_of r c) t)
      → pick b (quietly_or m (read_of r c) t) m ≡ q → Unnamed r (c ∷ t)
  quiet_step r c t true z ih e =
      unnamed_next r c t (not-true (in_name r.word) ((and-eq-true_iff (silent_by r.draft.emit) (not (in_name r.word))).0 z).1) (ih e)
  quiet_step r c t false z ih e = absurd (apart e)

  pub quietly_unnamed : (r : Reader) (t : List ℕ) → quietly_or m r t ≡ q → Unnamed r t
  unfolding quietly_or
  quietly_unnamed r [] h = unnamed_none r
  quietly_unnamed r (c ∷ t) h = quiet_step r c t (calm r) refl (λ e. quietly_unnamed (read_of r c) t e) h

  -- a line starts anew
  module _ (p : Phase) (k : Kind) (x₁ x₂ x₃ x₄ : ℕ) (e : Emit) (ok : failed_by e ≡ false) where
    pub line_unnamed : (t : List ℕ) → quietly_or m (before p k x₁ x₂ x₃ x₄ emits.Nothing) t ≡ q → Unnamed (before p k x₁ x₂ x₃ x₄ e) t
    unfolding quietly_or
    line_unnamed [] h = unnamed_none (before p k x₁ x₂ x₃ x₄ e)
    line_unnamed (c ∷ t) h =
        unnamed_next (before p k x₁ x₂ x₃ x₄ e) c t refl
        (subst (λ (r : Reader). Unnamed r t) (sym (quieted p k x₁ x₂ x₃ x₄ e ok c))
        (quietly_unnamed (read_of (before p k x₁ x₂ x₃ x₄ emits.Nothing) c) t h))
