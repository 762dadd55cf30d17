-- A line of bytes of a fill or a ROM: each comes back, and adds itself.
use Prim.Native.Nat.{ℕ, ◌/◌, ◌%◌, ◌≤◌, ◌<◌}
use mathlib.Core.Bool.{Bool, true, false}
use mathlib.Core.List.{List, [], ◌∷◌, ◌++◌, foldl-append, flat_map}
use mathlib.Core.Path.{◌≡◌, refl, ap, ◌∙◌}
use native.Mathlib.Omega.{arith}
use borrow.Author.Tests.{le-leb}
use Rattle.append.specs.{Sheet.Sheet, Sheet.puts, Number.glyph_of, Texts.codes}
use Rattle.common.specs.Width.{Bytes}
use Rattle.reader.specs.declared.reader.Reader.{Reader}
use Rattle.reader.specs.{Letter.sign_of, Draft.draft}
use Rattle.reader.specs.Word.{word, blank_word, dollar_of, meaning_of}
use Rattle.reader.specs.Number.{number_of}
use Rattle.reader.specs.Line.{taken_of, closing_of, line_of}
use Rattle.reader.specs.Reader.{reader, shut_of, spaced_of, plain_of, step_of, read_of}
use Rattle.lister.specs.Body.{bytes_text}
use Rattle.assembler.specs.Desk.{State, front_of, rom_of, script_of, stepped, runs, made, added}
use Rattle.bothways.proofs.Quietly.{loud, quietly, quietly_or, not-loud, quietly-runs, one}
use Rattle.bothways.proofs.{Digits.plain, Digits.byte-first, Rows.before}
use Rattle.reader.specs.declared.kinds.{Phase.Phase, Expected.Expected, Kind.Kind, Emit.Emit}
use Rattle.reader.specs.declared.kinds.Phase.TheVariants as phases
use Rattle.reader.specs.declared.kinds.Expected.TheVariants as wants
use Rattle.reader.specs.declared.kinds.Kind.TheVariants as kinds
use Rattle.reader.specs.declared.kinds.Emit.TheVariants as emits
use Rattle.reader.specs.declared.word.Form.TheVariants as forms

pub data Section : Type 0 where
  fill : Section
  rom : Section

-- its word, and the phase before it
abbrev pub word_of : Section → List ℕ
word_of fill = codes "fill"
word_of rom = codes "rom"

abbrev pub early : Section → Phase
early fill = phases.Settings
early rom = phases.Fill

-- the phase that it opens, its kind, what is expected first and then, and what each byte completes
abbrev pub late : Section → Phase
late fill = phases.Fill
late rom = phases.Rom

abbrev pub kind_of : Section → Kind
kind_of fill = kinds.Fill
kind_of rom = kinds.Rom

abbrev pub first_of : Section → Expected
first_of fill = wants.FillByte
first_of rom = wants.RomByteOrFile

abbrev more_of : Section → Expected
more_of fill = wants.MoreFill
more_of rom = wants.MoreRom

abbrev pub emit_of : Section → Emit
emit_of fill = emits.FillByte
emit_of rom = emits.RomByte

-- first or later
abbrev wanted_of : Section → Bool → Expected
wanted_of b true = first_of b
wanted_of b false = more_of b

-- which buffer gets the bytes
abbrev pub to_front : Section → List ℕ → List ℕ
to_front fill l = l
to_front rom l = []

abbrev pub to_rom : Section → List ℕ → List ℕ
to_rom fill l = []
to_rom rom l = l

abbrev pub gained : Section → Reader → Sheet → Sheet → Sheet → List ℕ → State
gained b r f o s l = made r (puts f (to_front b l)) (puts o (to_rom b l)) s

-- a byte x is read, y was before it
abbrev pub byte_read : Section → Bool → ℕ → ℕ → Reader
byte_read b i x y = reader (word forms.Hex x 0) (draft (late b) (wanted_of b i) (kind_of b) y 0 0 0 emits.Nothing)

abbrev pub spaced_read : Section → ℕ → Reader
spaced_read b x = reader (blank_word forms.Between) (draft (late b) (more_of b) (kind_of b) x 0 0 0 (emit_of b))

abbrev pub dollar_read : Section → ℕ → Reader
dollar_read b x = reader (word forms.Dollar 0 0) (draft (late b) (more_of b) (kind_of b) x 0 0 0 emits.Nothing)

abbrev pub line_read : Section → ℕ → Reader
line_read b x = before (late b) (kind_of b) x 0 0 0 (emit_of b)

module _ (x y : ℕ) (lx : x < 256) where
  least : 0 ≤ x
  least = omega arith

  most : x ≤ 255
  most = omega arith

  same : x % 256 ≡ x
  same = omega arith

  pub space : (b : Section) (i : Bool) → read_of (byte_read b i x y) 32 ≡ spaced_read b x
  unfolding read_of step_of sign_of spaced_of shut_of taken_of number_of meaning_of
  space fill true = rw (le-leb 0 x least, le-leb x 255 most, same)
  space fill false = rw (le-leb 0 x least, le-leb x 255 most, same)
  space rom true = rw (le-leb 0 x least, le-leb x 255 most, same)
  space rom false = rw (le-leb 0 x least, le-leb x 255 most, same)

  end : (b : Section) (i : Bool) → read_of (byte_read b i x y) 10 ≡ line_read b x
  unfolding read_of step_of sign_of shut_of taken_of number_of meaning_of line_of closing_of
  end fill true = rw (le-leb 0 x least, le-leb x 255 most, same)
  end fill false = rw (le-leb 0 x least, le-leb x 255 most, same)
  end rom true = rw (le-leb 0 x least, le-leb x 255 most, same)
  end rom false = rw (le-leb 0 x least, le-leb x 255 most, same)

pub dollar : (b : Section) (x : ℕ) → read_of (spaced_read b x) 36 ≡ dollar_read b x
unfolding read_of step_of plain_of sign_of dollar_of
dollar fill x = refl
dollar rom x = refl

module _ (file : List ℕ) (b : Section) (f o s : Sheet) where
  -- an unfinished byte adds nothing
  pub nothing : (x y : ℕ) (i : Bool) → added file f o s (byte_read b i x y) ≡ made (byte_read b i x y) f o s
  unfolding front_of rom_of script_of puts
  nothing x y i = refl

-- what a byte completes goes to its buffer
gain_space : (file : List ℕ) (b : Section) (f o s : Sheet) (x : ℕ) → added file f o s (spaced_read b x) ≡ gained b (spaced_read b x) f o s (x ∷ [])
unfolding front_of rom_of script_of puts
gain_space file fill f o s x = refl
gain_space file rom f o s x = refl

gain_line : (file : List ℕ) (b : Section) (f o s : Sheet) (x : ℕ) → added file f o s (line_read b x) ≡ gained b (line_read b x) f o s (x ∷ [])
unfolding front_of rom_of script_of puts
gain_line file fill f o s x = refl
gain_line file rom f o s x = refl

gain_gain : (b : Section) (r : Reader) (f o s : Sheet) (x : ℕ) (l : List ℕ)
    → gained b r (puts f (to_front b (x ∷ []))) (puts o (to_rom b (x ∷ []))) s l ≡ gained b r f o s (x ∷ l)
unfolding puts
gain_gain fill r f o s x l = refl
gain_gain rom r f o s x l = refl

-- the two digits behind `$`
pub digits : (b : Section) (x z : ℕ) → z < 256 → quietly (dollar_read b x) (glyph_of (z / 16) ∷ glyph_of z ∷ []) ≡ byte_read b false z x
unfolding quietly_or
digits b x z h = byte-first loud (late b) (more_of b) (kind_of b) x 0 0 0 plain [] 0 z h

-- one byte more
module _ (file : List ℕ) (b : Section) (i : Bool) (f o s : Sheet) (x y z : ℕ) (lx : x < 256) (lz : z < 256) (t : List ℕ) where
  abbrev front : Sheet
  front = puts f (to_front b (x ∷ []))

  abbrev image : Sheet
  image = puts o (to_rom b (x ∷ []))

  at-space : stepped file (made (byte_read b i x y) f o s) 32 ≡ made (spaced_read b x) front image s
  at-space = one file f o s (byte_read b i x y) 32 ∙ ap (added file f o s) (space x y lx b i) ∙ gain_space file b f o s x

  at-dollar : stepped file (made (spaced_read b x) front image s) 36 ≡ added file front image s (dollar_read b x)
  at-dollar = one file front image s (spaced_read b x) 36 ∙ ap (added file front image s) (dollar b x)

  next-byte : runs file (made (byte_read b i x y) f o s) (codes " $" ++ glyph_of (z / 16) ∷ glyph_of z ∷ t)
      ≡ runs file (made (byte_read b false z x) front image s) t
  unfolding runs
  next-byte =
      ap (λ (k : State). runs file (stepped file k 36) (glyph_of (z / 16) ∷ glyph_of z ∷ t)) at-space
      ∙ ap (λ (k : State). runs file k (glyph_of (z / 16) ∷ glyph_of z ∷ t)) at-dollar
      ∙ foldl-append (stepped file) (added file front image s (dollar_read b x)) (glyph_of (z / 16) ∷ glyph_of z ∷ []) t
      ∙ ap (λ (k : State). runs file k t)
      (quietly-runs (not-loud (byte_read b false z x) refl) file front image s (dollar_read b x) (glyph_of (z / 16) ∷ glyph_of z ∷ []) (digits b x z lz)
      ∙ nothing file b front image s z x false)

-- the last byte of a line
abbrev pub last_of : ℕ → List ℕ → ℕ
last_of x [] = x
last_of x (z ∷ l) = last_of z l

-- the bytes behind x, and the line's end
pub bytes_run : (file : List ℕ) (b : Section) (i : Bool) (f o s : Sheet) (x y : ℕ) (l : List ℕ) → Bytes (x ∷ l)
    → runs file (made (byte_read b i x y) f o s) (bytes_text l ++ codes "\n") ≡ gained b (line_read b (last_of x l)) f o s (x ∷ l)
unfolding flat_map runs
bytes_run file b i f o s x y [] h =
    one file f o s (byte_read b i x y) 10 ∙ ap (added file f o s) (end x y h.0 b i) ∙ gain_line file b f o s x
bytes_run file b i f o s x y (z ∷ l) h =
    next-byte file b i f o s x y z h.0 h.1.0 (bytes_text l ++ codes "\n")
    ∙ bytes_run file b false (puts f (to_front b (x ∷ []))) (puts o (to_rom b (x ∷ []))) s z x l h.1
    ∙ gain_gain b (line_read b (last_of z l)) f o s x (z ∷ l)
