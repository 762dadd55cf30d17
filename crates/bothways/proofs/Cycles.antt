-- A cycles row comes back, with its event and flags.
use Prim.Native.Nat.{ℕ, ◌/◌, ◌%◌, ◌≤◌, ◌<◌}
use mathlib.Core.Bool.{Bool, true, false}
use mathlib.Core.List.{List, [], ◌++◌}
use mathlib.Core.Path.{◌≡◌, refl, ap, sym, ◌∙◌}
use native.Mathlib.Omega.{arith}
use lib.Dec.{eqb}
use borrow.Author.Tests.{le-leb, eqb-true}
use Rattle.common.specs.Pick.{pick}
use Rattle.reader.specs.declared.reader.Reader.{Reader}
use Rattle.reader.specs.{Letter.sign_of, Letter.digit_of, Draft.draft, Draft.option_of}
use Rattle.reader.specs.Word.{word, letter_of, meaning_of}
use Rattle.reader.specs.Number.{number_of}
use Rattle.reader.specs.Line.{named_of, taken_of, closing_of, line_of}
use Rattle.reader.specs.Reader.{reader, shut_of, spaced_of, plain_of, step_of, read_of}
use Rattle.bothways.proofs.{Quietly.loud, Quietly.calm, Quietly.quietly, Quietly.quietly_or, Decimal.decimal-back}
use Rattle.append.specs.{Number.decimal, Texts.codes}
use Rattle.lister.specs.Row.{event_text, flags_text, cycles_text}
use Rattle.bothways.proofs.Rows.{Open, before, at, cycles-row, row_word}
use Rattle.reader.specs.declared.kinds.{Phase.Phase, Kind.Kind}
use Rattle.reader.specs.declared.kinds.Phase.TheVariants as phases
use Rattle.reader.specs.declared.kinds.Expected.TheVariants as wants
use Rattle.reader.specs.declared.kinds.Kind.TheVariants as kinds
use Rattle.reader.specs.declared.kinds.Emit.TheVariants as emits
use Rattle.reader.specs.declared.word.Form.TheVariants as forms

-- the flags of a row
pub data Flags : ℕ → Type 0 where
  none : Flags 0
  line : Flags 1
  timer : Flags 2
  both : Flags 3

module _ (l h v : ℕ) where
  line-end : quietly (at wants.Options kinds.Cycles l h v 0) (codes "line\n") ≡ before phases.Rows kinds.Cycles l h v 1 emits.Row
  unfolding quietly_or read_of step_of plain_of letter_of sign_of digit_of spaced_of shut_of taken_of named_of option_of meaning_of line_of closing_of
  line-end = refl

  timer-end : quietly (at wants.Options kinds.Cycles l h v 0) (codes "timer\n") ≡ before phases.Rows kinds.Cycles l h v 2 emits.Row
  unfolding quietly_or read_of step_of plain_of letter_of sign_of digit_of spaced_of shut_of taken_of named_of option_of meaning_of line_of closing_of
  timer-end = refl

  both_end : quietly (at wants.Options kinds.Cycles l h v 0) (codes "line timer\n") ≡ before phases.Rows kinds.Cycles l h v 3 emits.Row
  unfolding quietly_or read_of step_of plain_of letter_of sign_of digit_of spaced_of shut_of taken_of named_of option_of meaning_of line_of closing_of
  both_end = refl

  -- the flags behind a number
  tail : (w : Reader) → calm w ≡ true → read_of w 32 ≡ at wants.Options kinds.Cycles l h v 0 → read_of w 10 ≡ before phases.Rows kinds.Cycles l h v 0 emits.Row → (f : ℕ) → Flags f
      → quietly w (flags_text f ++ codes "\n") ≡ before phases.Rows kinds.Cycles l h v f emits.Row
  unfolding quietly_or flags_text
  tail w z s e f none = rw z e
  tail w z s e f line = rw z (ap (λ (x : Reader). quietly x (codes "line\n")) s ∙ line-end)
  tail w z s e f timer = rw z (ap (λ (x : Reader). quietly x (codes "timer\n")) s ∙ timer-end)
  tail w z s e f both = rw z (ap (λ (x : Reader). quietly x (codes "line timer\n")) s ∙ both_end)

-- the count and what may follow it
module _ (n : ℕ) (f1 : 1 ≤ n) (ln : n < 65536) where
  abbrev counted : Reader
  counted = reader (word forms.Decimal n 0) (draft phases.Rows wants.Count kinds.Cycles 0 0 0 0 emits.Nothing)

  count-space : read_of counted 32 ≡ at wants.Options kinds.Cycles (n % 256) (n / 256) 0 0
  unfolding read_of step_of sign_of spaced_of shut_of taken_of number_of meaning_of
  count-space =
      let q : n / 256 % 256 ≡ n / 256 = omega arith in
      rw (le-leb 1 n f1, le-leb n 65535 (omega arith), q)

  count-end : read_of counted 10 ≡ before phases.Rows kinds.Cycles (n % 256) (n / 256) 0 0 emits.Row
  unfolding read_of step_of sign_of shut_of taken_of number_of meaning_of line_of closing_of
  count-end =
      let q : n / 256 % 256 ≡ n / 256 = omega arith in
      rw (le-leb 1 n f1, le-leb n 65535 (omega arith), q)

-- the event and what may follow it
module _ (l h v : ℕ) (lv : v < 256) where
  abbrev timed : Reader
  timed = reader (word forms.Decimal v 0) (draft phases.Rows wants.Event kinds.Cycles l h 0 0 emits.Nothing)

  event-space : read_of timed 32 ≡ at wants.Options kinds.Cycles l h v 0
  unfolding read_of step_of sign_of spaced_of shut_of taken_of number_of meaning_of
  event-space =
      let q : v % 256 ≡ v = omega arith in
      rw (le-leb 0 v (omega arith), le-leb v 255 (omega arith), q)

  event-end : read_of timed 10 ≡ before phases.Rows kinds.Cycles l h v 0 emits.Row
  unfolding read_of step_of sign_of shut_of taken_of number_of meaning_of line_of closing_of
  event-end =
      let q : v % 256 ≡ v = omega arith in
      rw (le-leb 0 v (omega arith), le-leb v 255 (omega arith), q)

  event-word : (t : List ℕ) → quietly (at wants.Options kinds.Cycles l h 0 0) (codes "event " ++ t) ≡ quietly (at wants.Event kinds.Cycles l h 0 0) t
  unfolding quietly_or read_of step_of plain_of letter_of sign_of digit_of spaced_of shut_of taken_of named_of option_of meaning_of
  event-word t = refl

  -- an event behind the count
  event : (w : Reader) → calm w ≡ true → read_of w 32 ≡ at wants.Options kinds.Cycles l h 0 0 → (t : List ℕ) → quietly w ((codes " event " ++ decimal v) ++ t) ≡ quietly timed t
  unfolding quietly_or
  event w z s t =
      rw z
      (ap (λ (x : Reader). quietly x (codes "event " ++ decimal v ++ t)) s
      ∙ event-word (decimal v ++ t)
      ∙ decimal-back loud phases.Rows wants.Event kinds.Cycles l h 0 0 v t (omega arith))

module _ (n v f : ℕ) (f1 : 1 ≤ n) (ln : n < 65536) (lv : v < 256) (flags : Flags f) where
  rest : (b : Bool) → eqb v 0 ≡ b
      → quietly (counted n f1 ln) (pick b [] (codes " event " ++ decimal v) ++ (flags_text f ++ codes "\n")) ≡ before phases.Rows kinds.Cycles (n % 256) (n / 256) v f emits.Row
  rest true e =
      let z : 0 ≡ v = sym (eqb-true v 0 e) in
      tail (n % 256) (n / 256) 0 (counted n f1 ln) refl (count-space n f1 ln) (count-end n f1 ln) f flags
      ∙ ap (λ (x : ℕ). before phases.Rows kinds.Cycles (n % 256) (n / 256) x f emits.Row) z
  rest false e =
      event (n % 256) (n / 256) v lv (counted n f1 ln) refl (count-space n f1 ln) (flags_text f ++ codes "\n")
      ∙ tail (n % 256) (n / 256) v (timed (n % 256) (n / 256) v lv) refl (event-space (n % 256) (n / 256) v lv) (event-end (n % 256) (n / 256) v lv) f flags

  -- a cycles row comes back
  pub cycles-back : (k : Kind) (x₁ x₂ x₃ x₄ : ℕ) → (p : Phase) → Open p
      → quietly (before p k x₁ x₂ x₃ x₄ emits.Nothing) (cycles_text n v f) ≡ before phases.Rows kinds.Cycles (n % 256) (n / 256) v f emits.Row
  unfolding cycles_text event_text
  cycles-back k x₁ x₂ x₃ x₄ p o =
      row_word loud k x₁ x₂ x₃ x₄ (decimal n ++ (event_text v ++ (flags_text f ++ codes "\n"))) p o cycles-row
      ∙ decimal-back loud phases.Rows wants.Count kinds.Cycles 0 0 0 0 n (event_text v ++ (flags_text f ++ codes "\n")) ln
      ∙ rest (eqb v 0) refl
