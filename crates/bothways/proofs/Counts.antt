-- Rows with decimal numbers: back, pad and plug come back.
use Prim.Native.Nat.{ℕ, ◌+◌, ◌*◌, ◌/◌, ◌%◌, ◌≤◌, ◌<◌}
use mathlib.Core.Bool.{Bool, true, false}
use mathlib.Core.List.{List, [], ◌∷◌, ◌++◌}
use mathlib.Core.Path.{◌≡◌, refl, ap, ◌∙◌}
use native.Mathlib.Omega.{arith}
use borrow.Author.Tests.{le-leb}
use Rattle.reader.specs.declared.reader.Reader.{Reader}
use Rattle.reader.specs.{Letter.sign_of, Letter.digit_of, Draft.draft, Draft.switch_of}
use Rattle.reader.specs.Word.{word, letter_of, dollar_of, meaning_of}
use Rattle.reader.specs.Number.{number_of}
use Rattle.reader.specs.Line.{named_of, taken_of, closing_of, line_of}
use Rattle.reader.specs.Reader.{reader, shut_of, spaced_of, plain_of, step_of, read_of}
use Rattle.bothways.proofs.{Quietly.loud, Quietly.quietly, Quietly.quietly_or, Decimal.decimal-back}
use Rattle.append.specs.{Number.glyph_of, Number.decimal, Texts.codes}
use Rattle.lister.specs.Row.{word_text, pad_text, plug_text, back_text}
use Rattle.bothways.proofs.Digits.{plain, byte-first, byte_more}
use Rattle.bothways.proofs.Rows.{Open, before, at, pad-row, plug-row, back-row, row_word}
use Rattle.reader.specs.declared.kinds.{Phase.Phase, Kind.Kind}
use Rattle.reader.specs.declared.kinds.Phase.TheVariants as phases
use Rattle.reader.specs.declared.kinds.Expected.TheVariants as wants
use Rattle.reader.specs.declared.kinds.Kind.TheVariants as kinds
use Rattle.reader.specs.declared.kinds.Emit.TheVariants as emits
use Rattle.reader.specs.declared.word.Form.TheVariants as forms

-- the end of a back row
back_end : (n : ℕ) → 1 ≤ n → n < 65536 → quietly (reader (word forms.Decimal n 0) (draft phases.Rows wants.BackCount kinds.Back 0 0 0 0 emits.Nothing)) (codes "\n") ≡ before phases.Rows kinds.Back (n % 256) (n / 256) 0 0 emits.Row
unfolding quietly_or read_of step_of sign_of shut_of taken_of number_of meaning_of line_of closing_of
back_end n f l =
    let q : n / 256 % 256 ≡ n / 256 = omega arith in
    rw (le-leb 1 n f, le-leb n 65535 (omega arith), q)

-- a back row comes back
pub back-back : (n : ℕ) → 1 ≤ n → n < 65536 → (k : Kind) (x₁ x₂ x₃ x₄ : ℕ) → (p : Phase) → Open p
    → quietly (before p k x₁ x₂ x₃ x₄ emits.Nothing) (back_text n) ≡ before phases.Rows kinds.Back (n % 256) (n / 256) 0 0 emits.Row
unfolding back_text
back-back n f l k x₁ x₂ x₃ x₄ p o =
    row_word loud k x₁ x₂ x₃ x₄ (decimal n ++ codes "\n") p o back-row
    ∙ decimal-back loud phases.Rows wants.BackCount kinds.Back 0 0 0 0 n (codes "\n") l
    ∙ back_end n f l

-- 1 on, 0 off
abbrev pub bit : Bool → ℕ
bit true = 1
bit false = 0

abbrev on_off : Bool → List ℕ
on_off true = codes "on\n"
on_off false = codes "off\n"

module _ (n : ℕ) (l : n < 256) where
  -- the port of a pad row
  pad-space : read_of (reader (word forms.Decimal n 0) (draft phases.Rows wants.PadPort kinds.Pad 0 0 0 0 emits.Nothing)) 32 ≡ at wants.PadWord kinds.Pad n 0 0 0
  unfolding read_of step_of sign_of spaced_of shut_of taken_of number_of meaning_of
  pad-space =
      let q : n % 256 ≡ n = omega arith in
      rw (le-leb 0 n (omega arith), le-leb n 255 (omega arith), q)

  pad-sign : (t : List ℕ) → quietly (at wants.PadWord kinds.Pad n 0 0 0) (36 ∷ t) ≡ quietly (reader (word forms.Dollar 0 0) (draft phases.Rows wants.PadWord kinds.Pad n 0 0 0 emits.Nothing)) t
  unfolding quietly_or read_of step_of plain_of sign_of dollar_of
  pad-sign t = refl

  pad-dollar : (t : List ℕ) → quietly (reader (word forms.Decimal n 0) (draft phases.Rows wants.PadPort kinds.Pad 0 0 0 0 emits.Nothing)) (codes " $" ++ t) ≡ quietly (reader (word forms.Dollar 0 0) (draft phases.Rows wants.PadWord kinds.Pad n 0 0 0 emits.Nothing)) t
  unfolding quietly_or
  pad-dollar t = ap (λ (x : Reader). quietly x (36 ∷ t)) pad-space ∙ pad-sign t

  -- the word of a pad row
  pad-end : (a h : ℕ) → a < 256 → h < 256 → quietly (reader (word forms.Hex (h * 256 + a) 0) (draft phases.Rows wants.PadWord kinds.Pad n 0 0 0 emits.Nothing)) (codes "\n") ≡ before phases.Rows kinds.Pad n a h 0 emits.Row
  unfolding quietly_or read_of step_of sign_of shut_of taken_of number_of meaning_of line_of closing_of
  pad-end a h la lh =
      let q : (h * 256 + a) / 256 ≡ h = omega arith in
      let u : (h * 256 + a) % 256 ≡ a = omega arith in
      let v : h % 256 ≡ h = omega arith in
      rw (le-leb 0 (h * 256 + a) (omega arith), le-leb (h * 256 + a) 65535 (omega arith), u, q, v)

  -- a pad row comes back
  pub pad-back : (a h : ℕ) (k : Kind) (x₁ x₂ x₃ x₄ : ℕ) → a < 256 → h < 256 → (p : Phase) → Open p
      → quietly (before p k x₁ x₂ x₃ x₄ emits.Nothing) (pad_text n a h) ≡ before phases.Rows kinds.Pad n a h 0 emits.Row
  unfolding pad_text
  pad-back a h k x₁ x₂ x₃ x₄ la lh p o =
      row_word loud k x₁ x₂ x₃ x₄ (decimal n ++ word_text a h) p o pad-row
      ∙ decimal-back loud phases.Rows wants.PadPort kinds.Pad 0 0 0 0 n (word_text a h) (omega arith)
      ∙ pad-dollar (glyph_of (h / 16) ∷ glyph_of h ∷ glyph_of (a / 16) ∷ glyph_of a ∷ 10 ∷ [])
      ∙ byte-first loud phases.Rows wants.PadWord kinds.Pad n 0 0 0 plain (glyph_of (a / 16) ∷ glyph_of a ∷ 10 ∷ []) 0 h lh
      ∙ byte_more loud phases.Rows wants.PadWord kinds.Pad n 0 0 0 plain (codes "\n") h 0 a (omega arith) la
      ∙ pad-end a h la lh

  -- the port of a plug row
  plug-space : read_of (reader (word forms.Decimal n 0) (draft phases.Rows wants.PlugPort kinds.Plug 0 0 0 0 emits.Nothing)) 32 ≡ at wants.OnOff kinds.Plug n 0 0 0
  unfolding read_of step_of sign_of spaced_of shut_of taken_of number_of meaning_of
  plug-space =
      let q : n % 256 ≡ n = omega arith in
      rw (le-leb 0 n (omega arith), le-leb n 255 (omega arith), q)

  -- on, off
  switch : (b : Bool) → quietly (at wants.OnOff kinds.Plug n 0 0 0) (on_off b) ≡ before phases.Rows kinds.Plug n (bit b) 0 0 emits.Row
  unfolding quietly_or read_of step_of plain_of letter_of sign_of digit_of shut_of taken_of named_of switch_of meaning_of line_of closing_of
  switch true = refl
  switch false = refl

  plug-rest : (b : Bool) → quietly (reader (word forms.Decimal n 0) (draft phases.Rows wants.PlugPort kinds.Plug 0 0 0 0 emits.Nothing)) (32 ∷ on_off b) ≡ before phases.Rows kinds.Plug n (bit b) 0 0 emits.Row
  unfolding quietly_or
  plug-rest b = ap (λ (x : Reader). quietly x (on_off b)) plug-space ∙ switch b

  -- a plug row comes back
  pub plug-back : (b : Bool) (k : Kind) (x₁ x₂ x₃ x₄ : ℕ) → (p : Phase) → Open p
      → quietly (before p k x₁ x₂ x₃ x₄ emits.Nothing) (plug_text n (bit b)) ≡ before phases.Rows kinds.Plug n (bit b) 0 0 emits.Row
  unfolding plug_text
  plug-back true k x₁ x₂ x₃ x₄ p o =
      row_word loud k x₁ x₂ x₃ x₄ (decimal n ++ codes " on\n") p o plug-row
      ∙ decimal-back loud phases.Rows wants.PlugPort kinds.Plug 0 0 0 0 n (codes " on\n") (omega arith)
      ∙ plug-rest true
  plug-back false k x₁ x₂ x₃ x₄ p o =
      row_word loud k x₁ x₂ x₃ x₄ (decimal n ++ codes " off\n") p o plug-row
      ∙ decimal-back loud phases.Rows wants.PlugPort kinds.Plug 0 0 0 0 n (codes " off\n") (omega arith)
      ∙ plug-rest false
