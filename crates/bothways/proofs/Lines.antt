-- The lines of a fill or a ROM add its bytes, those of a script its rows.
use Prim.Native.Nat.{ℕ, zero, suc, ◌+◌, ◌*◌, ◌/◌, ◌%◌, ◌<◌}
use mathlib.Core.Bool.{true, false}
use mathlib.Core.List.{List, [], ◌∷◌, ◌++◌, append_assoc, append-nil, foldl-append, flat_map}
use mathlib.Core.Path.{◌≡◌, refl, sym, ap, subst, ◌∙◌}
use native.Mathlib.Omega.{arith}
use lib.ListN.{length, take, drop}
use lib.Seq.{take-add, drop-drop, take_all}
use Rattle.append.specs.{Texts.codes, Texts.each, Sheet.Sheet, Sheet.puts, Number.glyph_of}
use Rattle.append.proofs.Laws.{then}
use Rattle.fields.specs.Bytes.{part_of}
use Rattle.common.specs.Width.{Bytes}
use Rattle.benchfile.specs.{Row.formed_row, Row.row_bytes, File.script_formed}
use Rattle.fields.proofs.Parts.{part_bytes}
use Rattle.benchfile.proofs.Rows.{script}
use Rattle.reader.specs.{Letter.sign_of, Letter.digit_of, Draft.draft, Draft.keyword_of, Line.named_of, Line.taken_of}
use Rattle.reader.specs.Word.{word, letter_of, dollar_of, meaning_of}
use Rattle.reader.specs.Reader.{reader, shut_of, spaced_of, plain_of, step_of, read_of}
use Rattle.lister.specs.Body.{bytes_text, line_text, lines_from, lines_text}
use Rattle.lister.specs.{Row.row_text, List.rows_text, List.script_text}
use Rattle.assembler.specs.Desk.{State, stepped, runs, made}
use Rattle.bothways.proofs.{Quietly.loud, Quietly.quietly, Quietly.quietly_or, Quietly.not-loud, Digits.plain, Digits.byte-first}
use Rattle.bothways.proofs.Rows.{Open, rows, before}
use Rattle.bothways.proofs.Between.{Rest, line-runs, row_line}
use Rattle.bothways.proofs.Body.{Section, fill, rom, word_of, early, late, kind_of, first_of, emit_of, to_front, to_rom, byte_read, line_read, last_of, gained, nothing, bytes_run}
use Rattle.reader.specs.declared.kinds.{Phase.Phase, Kind.Kind}
use Rattle.reader.specs.declared.kinds.Phase.TheVariants as phases
use Rattle.reader.specs.declared.kinds.Emit.TheVariants as emits
use Rattle.reader.specs.declared.word.Form.TheVariants as forms
use Rattle.reader.specs.Draft.{failed_by}

-- the phase of a text with bytes l of a section
abbrev pub phase_of : Section → List ℕ → Phase
phase_of b [] = early b
phase_of b (x ∷ l) = late b

-- the word and the first byte
module _ (k : Kind) (x₁ x₂ x₃ x₄ : ℕ) (z : ℕ) (lz : z < 256) where
  abbrev start : List ℕ
  start = codes " $" ++ glyph_of (z / 16) ∷ glyph_of z ∷ []

  word-dollar : (b : Section) (a t : List ℕ)
      → quietly (before (phase_of b a) k x₁ x₂ x₃ x₄ emits.Nothing) (word_of b ++ (codes " $" ++ t)) ≡ quietly (reader (word forms.Dollar 0 0) (draft (late b) (first_of b) (kind_of b) 0 0 0 0 emits.Nothing)) t
  unfolding quietly_or read_of step_of plain_of letter_of sign_of digit_of dollar_of spaced_of shut_of taken_of named_of keyword_of meaning_of
  word-dollar fill [] t = refl
  word-dollar fill (x ∷ a) t = refl
  word-dollar rom [] t = refl
  word-dollar rom (x ∷ a) t = refl

  pub opening : (b : Section) (a : List ℕ) → quietly (before (phase_of b a) k x₁ x₂ x₃ x₄ emits.Nothing) (word_of b ++ start) ≡ byte_read b true z 0
  unfolding quietly_or
  opening b a =
      word-dollar b a (glyph_of (z / 16) ∷ glyph_of z ∷ [])
      ∙ byte-first loud (late b) (first_of b) (kind_of b) 0 0 0 0 plain [] 0 z lz

-- the first character of the word, and the others
abbrev pub head : Section → ℕ
head fill = 102
head rom = 114

abbrev pub letters : Section → List ℕ
letters fill = codes "ill"
letters rom = codes "om"

pub lettered : (b : Section) (t : List ℕ) → word_of b ++ t ≡ head b ∷ (letters b ++ t)
lettered fill t = refl
lettered rom t = refl

pub parted : (b : Section) (z : ℕ) (t : List ℕ) → word_of b ++ (codes " $" ++ glyph_of (z / 16) ∷ glyph_of z ∷ t)
    ≡ (head b ∷ (letters b ++ (codes " $" ++ glyph_of (z / 16) ∷ glyph_of z ∷ []))) ++ t
parted fill z t = refl
parted rom z t = refl

module _ (file : List ℕ) (b : Section) (f o s : Sheet) where
  -- what a section has so far
  abbrev pub Holds : List ℕ → State → Type 0
  Holds a k = Rest (phase_of b a) (puts f (to_front b a)) (puts o (to_rom b a)) s k

  -- one line
  module _ (a : List ℕ) (k : State) (r : Holds a k) (z : ℕ) (l : List ℕ) (small : Bytes (z ∷ l)) where
    abbrev was : State
    was = made (before (phase_of b a) r.kind r.b1 r.b2 r.b3 r.b4 r.emit) (puts f (to_front b a)) (puts o (to_rom b a)) s

    opened : runs file was (head b ∷ (letters b ++ (codes " $" ++ glyph_of (z / 16) ∷ glyph_of z ∷ [])))
        ≡ made (byte_read b true z 0) (puts f (to_front b a)) (puts o (to_rom b a)) s
    opened =
        line-runs (phase_of b a) r.kind r.b1 r.b2 r.b3 r.b4 r.emit r.fine (not-loud (byte_read b true z 0) refl) file
        (puts f (to_front b a)) (puts o (to_rom b a)) s (head b) (letters b ++ (codes " $" ++ glyph_of (z / 16) ∷ glyph_of z ∷ []))
        (ap (quietly (before (phase_of b a) r.kind r.b1 r.b2 r.b3 r.b4 emits.Nothing))
        (sym (lettered b (codes " $" ++ glyph_of (z / 16) ∷ glyph_of z ∷ [])))
        ∙ opening r.kind r.b1 r.b2 r.b3 r.b4 z small.0 b a)
        ∙ nothing file b (puts f (to_front b a)) (puts o (to_rom b a)) s z 0 true

    ran : runs file k (line_text (word_of b) (z ∷ l)) ≡ gained b (line_read b (last_of z l)) (puts f (to_front b a)) (puts o (to_rom b a)) s (z ∷ l)
    unfolding line_text flat_map runs
    ran =
        ap (λ (x : State). runs file x (word_of b ++ (codes " $" ++ glyph_of (z / 16) ∷ glyph_of z ∷ (bytes_text l ++ codes "\n")))) r.is
        ∙ ap (runs file was) (parted b z (bytes_text l ++ codes "\n"))
        ∙ foldl-append (stepped file) was (head b ∷ (letters b ++ (codes " $" ++ glyph_of (z / 16) ∷ glyph_of z ∷ []))) (bytes_text l ++ codes "\n")
        ∙ ap (λ (x : State). runs file x (bytes_text l ++ codes "\n")) opened
        ∙ bytes_run file b true (puts f (to_front b a)) (puts o (to_rom b a)) s z 0 l small

  phase-more : (a : List ℕ) (z : ℕ) (l : List ℕ) → phase_of b (a ++ (z ∷ l)) ≡ late b
  phase-more [] z l = refl
  phase-more (x ∷ a) z l = refl

front-more : (b : Section) (f : Sheet) (a l : List ℕ) → puts (puts f (to_front b a)) (to_front b l) ≡ puts f (to_front b (a ++ l))
unfolding puts
front-more fill f a l = then f a l refl refl
front-more rom f a l = refl

rom-more : (b : Section) (o : Sheet) (a l : List ℕ) → puts (puts o (to_rom b a)) (to_rom b l) ≡ puts o (to_rom b (a ++ l))
unfolding puts
rom-more fill o a l = refl
rom-more rom o a l = then o a l refl refl

fine : (b : Section) → failed_by (emit_of b) ≡ false
fine fill = refl
fine rom = refl

module _ (file : List ℕ) (b : Section) (f o s : Sheet) where
  -- a line adds its bytes; no bytes, no line
  pub line : (a p : List ℕ) (k : State) → Holds file b f o s a k → Bytes p → Holds file b f o s (a ++ p) (runs file k (line_text (word_of b) p))
  unfolding line_text runs
  line a [] k r small = subst (λ (x : List ℕ). Holds file b f o s x k) (sym (append-nil a)) r
  line a (z ∷ l) k r small =
      record {
        kind = kind_of b;
        b1 = last_of z l;
        b2 = 0;
        b3 = 0;
        b4 = 0;
        emit = emit_of b;
        fine = fine b;
        is =
            ran file b f o s a k r z l small
            ∙ ap (λ (x : Sheet). made (line_read b (last_of z l)) x (puts (puts o (to_rom b a)) (to_rom b (z ∷ l))) s) (front-more b f a (z ∷ l))
            ∙ ap (λ (x : Sheet). made (line_read b (last_of z l)) (puts f (to_front b (a ++ (z ∷ l)))) x s) (rom-more b o a (z ∷ l))
            ∙ ap (λ (x : Phase). made (before x (kind_of b) (last_of z l) 0 0 0 (emit_of b)) (puts f (to_front b (a ++ (z ∷ l)))) (puts o (to_rom b (a ++ (z ∷ l)))) s)
            (sym (phase-more file b f o s a z l));
      }

-- a part and what follows it
part-next : (l : List ℕ) (c i n : ℕ) → part_of l (i * c) c ++ part_of l ((i + 1) * c) (n * c) ≡ part_of l (i * c) (suc n * c)
part-next l c i n =
    let e : suc n * c ≡ c + n * c = omega arith in
    let d : i * c + c ≡ (i + 1) * c = omega arith in
    rw (e, take-add c (n * c) (drop (i * c) l), drop-drop c (i * c) l, d)

module _ (file : List ℕ) (b : Section) (f o s : Sheet) (l : List ℕ) (small : Bytes l) where
  -- n lines from line i on
  lines-from : (n i : ℕ) (a : List ℕ) (k : State) → Holds file b f o s a k
      → Holds file b f o s (a ++ part_of l (i * 16) (n * 16)) (runs file k (lines_from (word_of b) l n i))
  unfolding each runs
  lines-from zero i a k r = subst (λ (x : List ℕ). Holds file b f o s x k) (sym (append-nil a)) r
  lines-from (suc n) i a k r =
      let p : List ℕ = part_of l (i * 16) 16 in
      let t : List ℕ = lines_from (word_of b) l n (i + 1) in
      let here = line file b f o s a p k r (part_bytes l (i * 16) 16 small) in
      let rest = lines-from n (i + 1) (a ++ p) (runs file k (line_text (word_of b) p)) here in
      let q : (a ++ p) ++ part_of l ((i + 1) * 16) (n * 16) ≡ a ++ part_of l (i * 16) (suc n * 16) =
      append_assoc a p (part_of l ((i + 1) * 16) (n * 16)) ∙ ap (λ (x : List ℕ). a ++ x) (part-next l 16 i n) in
      let u = subst (λ (x : List ℕ). Holds file b f o s x (runs file (runs file k (line_text (word_of b) p)) t)) q rest in
      subst (λ (x : State). Holds file b f o s (a ++ part_of l (i * 16) (suc n * 16)) x) (sym (foldl-append (stepped file) k (line_text (word_of b) p) t)) u

  -- all lines
  pub lines-add : (k : State) → Holds file b f o s [] k → Holds file b f o s l (runs file k (lines_text (word_of b) l))
  unfolding lines_text
  lines-add k r =
      let n : ℕ = length l / 16 + 1 in
      let e : take (n * 16) l ≡ l = take_all (n * 16) l (omega arith) in
      subst (λ (x : List ℕ). Holds file b f o s x (runs file k (lines_from (word_of b) l n 0))) e (lines-from n 0 [] k r)

module _ (file : List ℕ) (f o s : Sheet) where
  -- rows may come, and the script has these bytes so far
  abbrev pub Scripted : List ℕ → State → Type 0
  Scripted a k = (p : Phase) × (Open p × Rest p f o (puts s a) k)

  module _ (l : List ℕ) (small : Bytes l) where
    -- n rows from row i on
    rows-from : (n i : ℕ) → ((j : ℕ) → j < i + n → formed_row (row_bytes l j) ≡ true) → (a : List ℕ) (k : State) → Scripted a k
        → Scripted (a ++ part_of l (i * 8) (n * 8)) (runs file k (rows_text l n i))
    unfolding each runs
    rows-from zero i h a k r = subst (λ (x : List ℕ). Scripted x k) (sym (append-nil a)) r
    rows-from (suc n) i h a k r =
        let p : List ℕ = part_of l (i * 8) 8 in
        let t : List ℕ = rows_text l n (i + 1) in
        let one = row_line file f o (puts s a) p (part_bytes l (i * 8) 8 small) (h i (omega arith)) r.0 r.1.0 k r.1.1 in
        let put : puts (puts s a) p ≡ puts s (a ++ p) = then s a p refl refl in
        let here : Scripted (a ++ p) (runs file k (row_text p)) =
        (phases.Rows, (rows, subst (λ (x : Sheet). Rest phases.Rows f o x (runs file k (row_text p))) put one)) in
        let rest = rows-from n (i + 1) (λ j m. h j (omega arith)) (a ++ p) (runs file k (row_text p)) here in
        let q : (a ++ p) ++ part_of l ((i + 1) * 8) (n * 8) ≡ a ++ part_of l (i * 8) (suc n * 8) =
        append_assoc a p (part_of l ((i + 1) * 8) (n * 8)) ∙ ap (λ (x : List ℕ). a ++ x) (part-next l 8 i n) in
        let u = subst (λ (x : List ℕ). Scripted x (runs file (runs file k (row_text p)) t)) q rest in
        subst (λ (x : State). Scripted (a ++ part_of l (i * 8) (suc n * 8)) x) (sym (foldl-append (stepped file) k (row_text p) t)) u

    -- all rows
    pub rows-add : script_formed l ≡ true → (k : State) → Scripted [] k → Scripted l (runs file k (script_text l))
    unfolding script_text
    rows-add h k r =
        let w = script l h in
        let n : ℕ = length l / 8 in
        let m : length l % 8 ≡ 0 = w.0 in
        let e : take (n * 8) l ≡ l = take_all (n * 8) l (omega arith) in
        subst (λ (x : List ℕ). Scripted x (runs file k (rows_text l n 0))) e (rows-from n 0 (λ j u. w.1 j (omega arith)) [] k r)
