-- What list writes of a row, the reader quietly back.
use Prim.Native.Nat.{ℕ, ◌+◌, ◌*◌, ◌/◌, ◌%◌, ◌<◌}
use Prim.Native.String.{String}
use mathlib.Core.Bool.{true}
use mathlib.Core.List.{List, [], ◌∷◌, ◌++◌}
use mathlib.Core.Path.{◌≡◌, refl, ap, ◌∙◌}
use native.Mathlib.Omega.{arith}
use borrow.Author.Tests.{le-leb}
use Rattle.reader.specs.declared.reader.Reader.{Reader}
use Rattle.reader.specs.{Letter.sign_of, Letter.digit_of, Draft.draft, Draft.keyword_of}
use Rattle.reader.specs.Word.{word, blank_word, letter_of, dollar_of, colon_of, meaning_of}
use Rattle.reader.specs.Number.{number_of}
use Rattle.reader.specs.Line.{named_of, taken_of, closing_of, line_of}
use Rattle.reader.specs.Reader.{reader, shut_of, spaced_of, plain_of, step_of, read_of}
use Rattle.bothways.proofs.Quietly.{loud, calm, quietly, quietly_or}
use Rattle.append.specs.{Number.glyph_of, Texts.codes}
use Rattle.lister.specs.Row.{read_text, write_text, answer_text}
use Rattle.bothways.proofs.Digits.{plain, banked, byte-first, byte_more}
use Rattle.reader.specs.declared.kinds.{Phase.Phase, Expected.Expected, Kind.Kind, Emit.Emit}
use Rattle.reader.specs.declared.kinds.Phase.TheVariants as phases
use Rattle.reader.specs.declared.kinds.Expected.TheVariants as wants
use Rattle.reader.specs.declared.kinds.Kind.TheVariants as kinds
use Rattle.reader.specs.declared.kinds.Emit.TheVariants as emits
use Rattle.reader.specs.declared.word.Form.TheVariants as forms
use Rattle.reader.specs.Draft.{no_later}

-- the phases in which rows may come
pub data Open : Phase → Type 0 where
  fill : Open phases.Fill
  rom : Open phases.Rom
  rows : Open phases.Rows

-- the kinds whose byte stands last
data Row : Kind → Type 0 where
  write : Row kinds.Write
  answer : Row kinds.Answer

-- before a line: nothing of the line before matters but that it did not fail
abbrev pub before : Phase → Kind → ℕ → ℕ → ℕ → ℕ → Emit → Reader
before p k x₁ x₂ x₃ x₄ e = reader (blank_word forms.Between) (draft p wants.Line k x₁ x₂ x₃ x₄ e)

-- a word of the line is expected
abbrev pub at : Expected → Kind → ℕ → ℕ → ℕ → ℕ → Reader
at s k x₁ x₂ x₃ x₄ = reader (blank_word forms.Between) (draft phases.Rows s k x₁ x₂ x₃ x₄ emits.Nothing)

-- the word that opens a row, with the space behind it: what is expected first, and the row's kind
pub data Opens : String → Expected → Kind → Type 0 where
  cycles-row : Opens "cycles " wants.Count kinds.Cycles
  read-row : Opens "read " wants.ReadAddress kinds.Read
  write-row : Opens "write " wants.WriteAddress kinds.Write
  pad-row : Opens "pad " wants.PadPort kinds.Pad
  plug-row : Opens "plug " wants.PlugPort kinds.Plug
  answer-row : Opens "answer " wants.AnswerAddress kinds.Answer
  back-row : Opens "back " wants.BackCount kinds.Back

in_phase : {p : Phase} → Open p → (no_later phases.Fill p ≡ true) × (no_later p phases.Rows ≡ true)
in_phase fill = (refl, refl)
in_phase rom = (refl, refl)
in_phase rows = (refl, refl)

-- any mark m, and a line that starts anew
module _ (m : Reader) (k : Kind) (x₁ x₂ x₃ x₄ : ℕ) (t : List ℕ) (p : Phase) (o : Open p) where
  pub row_word : {w : String} {s : Expected} {kind : Kind} → Opens w s kind → quietly_or m (before p k x₁ x₂ x₃ x₄ emits.Nothing) (codes w ++ t) ≡ quietly_or m (at s kind 0 0 0 0) t
  unfolding quietly_or read_of step_of plain_of letter_of sign_of digit_of spaced_of shut_of taken_of named_of keyword_of meaning_of
  row_word cycles-row = rw ((in_phase o).0, (in_phase o).1)
  row_word read-row = rw ((in_phase o).0, (in_phase o).1)
  row_word write-row = rw ((in_phase o).0, (in_phase o).1)
  row_word pad-row = rw ((in_phase o).0, (in_phase o).1)
  row_word plug-row = rw ((in_phase o).0, (in_phase o).1)
  row_word answer-row = rw ((in_phase o).0, (in_phase o).1)
  row_word back-row = rw ((in_phase o).0, (in_phase o).1)

-- `$` and a bank, a colon, an address
module _ (s : Expected) (k : Kind) (b l h : ℕ) (t : List ℕ) (lb : b < 256) (ll : l < 256) (lh : h < 256) where
  address : quietly (at s k 0 0 0 0) (36 ∷ glyph_of (b / 16) ∷ glyph_of b ∷ 58 ∷ glyph_of (h / 16) ∷ glyph_of h ∷ glyph_of (l / 16) ∷ glyph_of l ∷ t)
      ≡ quietly (reader (word forms.Banked (h * 256 + l) b) (draft phases.Rows s k 0 0 0 0 emits.Nothing)) t
  unfolding quietly_or read_of step_of plain_of sign_of dollar_of colon_of
  address =
      byte-first loud phases.Rows s k 0 0 0 0 plain (58 ∷ glyph_of (h / 16) ∷ glyph_of h ∷ glyph_of (l / 16) ∷ glyph_of l ∷ t) 0 b lb
      ∙ byte-first loud phases.Rows s k 0 0 0 0 banked (glyph_of (l / 16) ∷ glyph_of l ∷ t) b h lh
      ∙ byte_more loud phases.Rows s k 0 0 0 0 banked t h b l (omega arith) ll

-- `= $` behind an address
module _ (r : Reader) (k : Kind) (b l h : ℕ) (t : List ℕ) where
  sign : quietly (at wants.Byte k b l h 0) (codes "= $" ++ t) ≡ quietly (reader (word forms.Dollar 0 0) (draft phases.Rows wants.Byte k b l h 0 emits.Nothing)) t
  unfolding quietly_or read_of step_of plain_of sign_of dollar_of spaced_of shut_of
  sign = refl

  spaced : calm r ≡ true → read_of r 32 ≡ at wants.Byte k b l h 0 → quietly r (codes " = $" ++ t) ≡ quietly (reader (word forms.Dollar 0 0) (draft phases.Rows wants.Byte k b l h 0 emits.Nothing)) t
  unfolding quietly_or
  spaced z e = rw z (ap (λ (x : Reader). quietly x (codes "= $" ++ t)) e ∙ sign)

module _ (b l h : ℕ) (lb : b < 256) (ll : l < 256) (lh : h < 256) where
  abbrev whole : ℕ
  whole = b * 65536 + (h * 256 + l)

  low : whole % 256 ≡ l
  low = omega arith

  mid : whole / 256 % 256 ≡ h
  mid = omega arith

  high : whole / 65536 % 256 ≡ b
  high = omega arith

  -- the end of a read row
  read-end : quietly (reader (word forms.Banked (h * 256 + l) b) (draft phases.Rows wants.ReadAddress kinds.Read 0 0 0 0 emits.Nothing)) (codes "\n") ≡ before phases.Rows kinds.Read b l h 0 emits.Row
  unfolding quietly_or read_of step_of sign_of shut_of taken_of number_of meaning_of line_of closing_of
  read-end =
      rw (le-leb b 255 (omega arith), le-leb (h * 256 + l) 65535 (omega arith), le-leb 0 whole (omega arith), le-leb whole 16777215 (omega arith), low, mid, high)

  -- a read row comes back
  pub read_back : (k : Kind) (x₁ x₂ x₃ x₄ : ℕ) → (p : Phase) → Open p
      → quietly (before p k x₁ x₂ x₃ x₄ emits.Nothing) (read_text b l h) ≡ before phases.Rows kinds.Read b l h 0 emits.Row
  unfolding read_text
  read_back k x₁ x₂ x₃ x₄ p o =
      let rest : List ℕ = 36 ∷ glyph_of (b / 16) ∷ glyph_of b ∷ 58 ∷ glyph_of (h / 16) ∷ glyph_of h ∷ glyph_of (l / 16) ∷ glyph_of l ∷ 10 ∷ [] in
      row_word loud k x₁ x₂ x₃ x₄ rest p o read-row
      ∙ address wants.ReadAddress kinds.Read b l h (codes "\n") lb ll lh
      ∙ read-end

  -- the address of a write row
  write-space : read_of (reader (word forms.Banked (h * 256 + l) b) (draft phases.Rows wants.WriteAddress kinds.Write 0 0 0 0 emits.Nothing)) 32 ≡ reader (blank_word forms.Between) (draft phases.Rows wants.Byte kinds.Write b l h 0 emits.Nothing)
  unfolding read_of step_of sign_of spaced_of shut_of taken_of number_of meaning_of
  write-space =
      rw (le-leb b 255 (omega arith), le-leb (h * 256 + l) 65535 (omega arith), le-leb 0 whole (omega arith), le-leb whole 16777215 (omega arith), low, mid, high)

  write_middle : (t : List ℕ) → quietly (reader (word forms.Banked (h * 256 + l) b) (draft phases.Rows wants.WriteAddress kinds.Write 0 0 0 0 emits.Nothing)) (codes " = $" ++ t)
      ≡ quietly (reader (word forms.Dollar 0 0) (draft phases.Rows wants.Byte kinds.Write b l h 0 emits.Nothing)) t
  write_middle t = spaced (reader (word forms.Banked (h * 256 + l) b) (draft phases.Rows wants.WriteAddress kinds.Write 0 0 0 0 emits.Nothing)) kinds.Write b l h t refl write-space

  -- the byte of a write row or an answer row, and the line's end
  byte-end : (kind : Kind) (first x : ℕ) → Row kind → x < 256 → quietly (reader (word forms.Hex x 0) (draft phases.Rows wants.Byte kind first l h 0 emits.Nothing)) (codes "\n") ≡ before phases.Rows kind first l h x emits.Row
  unfolding quietly_or read_of step_of sign_of shut_of taken_of number_of meaning_of line_of closing_of
  byte-end kind first x write lx =
      let w : x % 256 ≡ x = omega arith in
      rw (le-leb 0 x (omega arith), le-leb x 255 (omega arith), w)
  byte-end kind first x answer lx =
      let w : x % 256 ≡ x = omega arith in
      rw (le-leb 0 x (omega arith), le-leb x 255 (omega arith), w)

  -- a write row comes back
  pub write-back : (x : ℕ) (k : Kind) (x₁ x₂ x₃ x₄ : ℕ) → x < 256 → (p : Phase) → Open p
      → quietly (before p k x₁ x₂ x₃ x₄ emits.Nothing) (write_text b l h x) ≡ before phases.Rows kinds.Write b l h x emits.Row
  unfolding write_text
  write-back x k x₁ x₂ x₃ x₄ lx p o =
      let end : List ℕ = codes " = $" ++ glyph_of (x / 16) ∷ glyph_of x ∷ 10 ∷ [] in
      let rest : List ℕ = 36 ∷ glyph_of (b / 16) ∷ glyph_of b ∷ 58 ∷ glyph_of (h / 16) ∷ glyph_of h ∷ glyph_of (l / 16) ∷ glyph_of l ∷ end in
      row_word loud k x₁ x₂ x₃ x₄ rest p o write-row
      ∙ address wants.WriteAddress kinds.Write b l h end lb ll lh
      ∙ write_middle (glyph_of (x / 16) ∷ glyph_of x ∷ 10 ∷ [])
      ∙ byte-first loud phases.Rows wants.Byte kinds.Write b l h 0 plain (codes "\n") 0 x lx
      ∙ byte-end kinds.Write b x write lx

  answer-space : read_of (reader (word forms.Hex (h * 256 + l) 0) (draft phases.Rows wants.AnswerAddress kinds.Answer 0 0 0 0 emits.Nothing)) 32 ≡ reader (blank_word forms.Between) (draft phases.Rows wants.Byte kinds.Answer 0 l h 0 emits.Nothing)
  unfolding read_of step_of sign_of spaced_of shut_of taken_of number_of meaning_of
  answer-space =
      let q : (h * 256 + l) / 256 ≡ h = omega arith in
      let u : (h * 256 + l) % 256 ≡ l = omega arith in
      let v : h % 256 ≡ h = omega arith in
      rw (le-leb 0 (h * 256 + l) (omega arith), le-leb (h * 256 + l) 65535 (omega arith), u, q, v)

  answer_middle : (t : List ℕ) → quietly (reader (word forms.Hex (h * 256 + l) 0) (draft phases.Rows wants.AnswerAddress kinds.Answer 0 0 0 0 emits.Nothing)) (codes " = $" ++ t)
      ≡ quietly (reader (word forms.Dollar 0 0) (draft phases.Rows wants.Byte kinds.Answer 0 l h 0 emits.Nothing)) t
  answer_middle t = spaced (reader (word forms.Hex (h * 256 + l) 0) (draft phases.Rows wants.AnswerAddress kinds.Answer 0 0 0 0 emits.Nothing)) kinds.Answer 0 l h t refl answer-space

  answer-dollar : (t : List ℕ) → quietly (at wants.AnswerAddress kinds.Answer 0 0 0 0) (36 ∷ t) ≡ quietly (reader (word forms.Dollar 0 0) (draft phases.Rows wants.AnswerAddress kinds.Answer 0 0 0 0 emits.Nothing)) t
  unfolding quietly_or read_of step_of plain_of sign_of dollar_of
  answer-dollar t = refl

  -- an answer row comes back
  pub answer_back : (x : ℕ) (k : Kind) (x₁ x₂ x₃ x₄ : ℕ) → x < 256 → (p : Phase) → Open p
      → quietly (before p k x₁ x₂ x₃ x₄ emits.Nothing) (answer_text l h x) ≡ before phases.Rows kinds.Answer 0 l h x emits.Row
  unfolding answer_text
  answer_back x k x₁ x₂ x₃ x₄ lx p o =
      let end : List ℕ = codes " = $" ++ glyph_of (x / 16) ∷ glyph_of x ∷ 10 ∷ [] in
      let digits : List ℕ = glyph_of (h / 16) ∷ glyph_of h ∷ glyph_of (l / 16) ∷ glyph_of l ∷ end in
      row_word loud k x₁ x₂ x₃ x₄ (36 ∷ digits) p o answer-row
      ∙ answer-dollar digits
      ∙ byte-first loud phases.Rows wants.AnswerAddress kinds.Answer 0 0 0 0 plain (glyph_of (l / 16) ∷ glyph_of l ∷ end) 0 h lh
      ∙ byte_more loud phases.Rows wants.AnswerAddress kinds.Answer 0 0 0 0 plain end h 0 l (omega arith) ll
      ∙ answer_middle (glyph_of (x / 16) ∷ glyph_of x ∷ 10 ∷ [])
      ∙ byte-first loud phases.Rows wants.Byte kinds.Answer 0 l h 0 plain (codes "\n") 0 x lx
      ∙ byte-end kinds.Answer 0 x answer lx
