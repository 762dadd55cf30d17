-- Digits that are written and read again.
use Prim.Native.Nat.{ℕ, ◌+◌, ◌-◌, ◌*◌, ◌/◌, ◌%◌, ◌≤◌, ◌<◌}
use mathlib.Core.Bool.{Bool, true, false}
use mathlib.Core.List.{List, ◌∷◌}
use mathlib.Core.Path.{◌≡◌, refl, ap, ◌∙◌}
use native.Mathlib.Omega.{arith}
use lib.Dec.{ltb}
use borrow.Author.Tests.{lt-ltb, ltb-true, ltb-false, ne_eqb}
use Rattle.common.specs.Pick.{pick}
use Rattle.common.proofs.RangeLaws.{inside, above}
use Rattle.reader.specs.declared.draft.Draft.{Draft}
use Rattle.reader.specs.declared.reader.Reader.{Reader}
use Rattle.reader.specs.declared.sign.Sign.TheVariants.{Other}
use Rattle.std.specs.Prelude.{Some}
use Rattle.reader.specs.{Letter.sign_of, Letter.digit_of, Word.word, Word.letter_of, Draft.draft}
use Rattle.reader.specs.Reader.{reader, plain_of, step_of, read_of}
use Rattle.bothways.proofs.Quietly.{quietly_or}
use Rattle.append.specs.Number.{glyph_of}
use Rattle.reader.specs.declared.kinds.{Phase.Phase, Expected.Expected, Kind.Kind}
use Rattle.reader.specs.declared.kinds.Emit.TheVariants as emits
use Rattle.reader.specs.declared.word.Form.TheVariants as forms
use Rattle.reader.specs.declared.word.Form.{Form}

-- the sign of a digit r below 16
abbrev sign : Bool → ℕ → ℕ
sign b r = pick b (r + 48) (r + 55)

digit-back : (b : Bool) (r : ℕ) → ltb r 10 ≡ b → r < 16 → digit_of (sign b r) ≡ Some r
unfolding digit_of
digit-back true r h l =
    let k : r < 10 = ltb-true r 10 h in
    let e : r + 48 - 48 ≡ r = omega arith in
    rw (inside 48 58 (r + 48) (omega arith) (omega arith), e)
digit-back false r h l =
    let k : 10 ≤ r = ltb-false r 10 h in
    let e : r + 55 - 55 ≡ r = omega arith in
    rw (above 48 58 (r + 55) (omega arith), inside 65 91 (r + 55) (omega arith) (omega arith), e)

plain-sign : (c : ℕ) → (c ≡ 10 → ⊥) → (c ≡ 59 → ⊥) → (c ≡ 32 → ⊥) → (c ≡ 9 → ⊥) → (c ≡ 13 → ⊥) → (c ≡ 44 → ⊥) → (c ≡ 61 → ⊥)
    → (c ≡ 36 → ⊥) → (c ≡ 58 → ⊥) → sign_of c ≡ Other
unfolding sign_of
plain-sign c n₁ n₂ n₃ n₄ n₅ n₆ n₇ n₈ n₉ =
    rw (ne_eqb c 10 n₁, ne_eqb c 59 n₂, ne_eqb c 32 n₃, ne_eqb c 9 n₄, ne_eqb c 13 n₅, ne_eqb c 44 n₆, ne_eqb c 61 n₇, ne_eqb c 36 n₈, ne_eqb c 58 n₉)

sign-back : (b : Bool) (r : ℕ) → ltb r 10 ≡ b → r < 16 → sign_of (sign b r) ≡ Other
sign-back true r h l =
    let k : r < 10 = ltb-true r 10 h in
    plain-sign (r + 48) (λ e. omega arith) (λ e. omega arith) (λ e. omega arith) (λ e. omega arith) (λ e. omega arith) (λ e. omega arith)
    (λ e. omega arith) (λ e. omega arith) (λ e. omega arith)
sign-back false r h l =
    let k : 10 ≤ r = ltb-false r 10 h in
    plain-sign (r + 55) (λ e. omega arith) (λ e. omega arith) (λ e. omega arith) (λ e. omega arith) (λ e. omega arith) (λ e. omega arith)
    (λ e. omega arith) (λ e. omega arith) (λ e. omega arith)

module _ (x : ℕ) where
  small : x % 16 < 16
  small = omega arith

  nought : 0 * 16 + x % 16 ≡ x % 16
  nought = omega arith

  glyph-digit : digit_of (glyph_of x) ≡ Some (x % 16)
  unfolding glyph_of
  glyph-digit = digit-back (ltb (x % 16) 10) (x % 16) refl small

  glyph-sign : sign_of (glyph_of x) ≡ Other
  unfolding glyph_of
  glyph-sign = sign-back (ltb (x % 16) 10) (x % 16) refl small

-- a digit of a decimal number
module _ (y : ℕ) (h : y < 10) where
  same : 48 + y ≡ glyph_of y
  unfolding glyph_of
  same = let e : y % 16 ≡ y = omega arith in rw (e, lt-ltb y 10 h) (omega arith)

  pub ten_digit : digit_of (48 + y) ≡ Some y
  ten_digit = let e : y % 16 ≡ y = omega arith in ap digit_of same ∙ glyph-digit y ∙ ap Some e

  pub ten_sign : sign_of (48 + y) ≡ Other
  ten_sign = ap sign_of same ∙ glyph-sign y

-- a word's form behind `$` and, with a colon, behind a bank: before the digits and with them
pub data Hex : Form → Form → Type 0 where
  plain : Hex forms.Dollar forms.Hex
  banked : Hex forms.Colon forms.Banked

-- any mark m, and a quiet draft
module _ (m : Reader) (p : Phase) (s : Expected) (k : Kind) (x₁ x₂ x₃ x₄ : ℕ) where
  abbrev quiet : Draft
  quiet = draft p s k x₁ x₂ x₃ x₄ emits.Nothing

  -- the first digit of a number
  hex_first : {e f : Form} → Hex e f → (t : List ℕ) (b x : ℕ)
      → quietly_or m (reader (word e 0 b) quiet) (glyph_of x ∷ t) ≡ quietly_or m (reader (word f (x % 16) b) quiet) t
  unfolding quietly_or read_of step_of plain_of letter_of
  hex_first plain t b x = rw (glyph-sign x, glyph-digit x, lt-ltb (x % 16) 16 (small x), nought x)
  hex_first banked t b x = rw (glyph-sign x, glyph-digit x, lt-ltb (x % 16) 16 (small x), nought x)

  -- one digit more
  hex_more : {e f : Form} → Hex e f → (t : List ℕ) (v b x : ℕ) → v < 72057594037927936
      → quietly_or m (reader (word f v b) quiet) (glyph_of x ∷ t) ≡ quietly_or m (reader (word f (v * 16 + x % 16) b) quiet) t
  unfolding quietly_or read_of step_of plain_of letter_of
  hex_more plain t v b x h = rw (glyph-sign x, glyph-digit x, lt-ltb (x % 16) 16 (small x), lt-ltb v 72057594037927936 h)
  hex_more banked t v b x h = rw (glyph-sign x, glyph-digit x, lt-ltb (x % 16) 16 (small x), lt-ltb v 72057594037927936 h)

  module _ {e f : Form} (n : Hex e f) where
    -- the two digits of its first byte
    pub byte-first : (t : List ℕ) (b x : ℕ) → x < 256
        → quietly_or m (reader (word e 0 b) quiet) (glyph_of (x / 16) ∷ glyph_of x ∷ t) ≡ quietly_or m (reader (word f x b) quiet) t
    byte-first t b x h =
        let i : x / 16 % 16 * 16 + x % 16 ≡ x = omega arith in
        let l : x / 16 % 16 < 72057594037927936 = omega arith in
        hex_first n (glyph_of x ∷ t) b (x / 16) ∙ hex_more n t (x / 16 % 16) b x l ∙ rw i

    -- one byte more
    pub byte_more : (t : List ℕ) (v b x : ℕ) → v < 65536 → x < 256
        → quietly_or m (reader (word f v b) quiet) (glyph_of (x / 16) ∷ glyph_of x ∷ t) ≡ quietly_or m (reader (word f (v * 256 + x) b) quiet) t
    byte_more t v b x k h =
        let i : (v * 16 + x / 16 % 16) * 16 + x % 16 ≡ v * 256 + x = omega arith in
        let l : v < 72057594037927936 = omega arith in
        let f : v * 16 + x / 16 % 16 < 72057594037927936 = omega arith in
        hex_more n (glyph_of x ∷ t) v b (x / 16) l ∙ hex_more n t (v * 16 + x / 16 % 16) b x f ∙ rw i
