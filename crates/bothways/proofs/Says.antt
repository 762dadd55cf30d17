-- What the text of settings, fill, ROM and script says: their bytes, in the three buffers.
use Prim.Native.Nat.{ℕ, ◌/◌, ◌%◌, ◌≤◌, ◌<◌}
use mathlib.Core.Bool.{true}
use mathlib.Core.List.{List, [], ◌∷◌, ◌++◌, foldl-append}
use mathlib.Core.Path.{◌≡◌, sym, subst, ◌∙◌}
use native.Mathlib.Omega.{arith}
use lib.ListN.{length}
use lib.Seq.{take_all}
use Rattle.common.proofs.AllLaws.{byte_fits}
use Rattle.append.specs.{Sheet.Sheet, Sheet.puts, Texts.codes}
use Rattle.fields.specs.{Bytes.byte_at, Little.field}
use Rattle.common.specs.Width.{Bytes}
use Rattle.benchfile.specs.File.{script_formed}
use Rattle.benchfile.proofs.Numbers.{lo_back, hi-back}
use Rattle.fields.proofs.Parts.{listed}
use Rattle.reader.specs.Reader as reading
use Rattle.lister.specs.{Body.lines_text, List.settings_text, List.script_text}
use Rattle.assembler.specs.Desk.{State, stepped, runs, made}
use Rattle.bothways.proofs.Rows as open_in
use Rattle.bothways.proofs.{Between.Rest, Settings.settings-line, Unnamed.Unnamed, Unnamed.unnamed_runs}
use Rattle.bothways.proofs.Body as body
use Rattle.bothways.proofs.Nameless.{settings-nameless, lines-nameless, script-nameless}
use Rattle.bothways.proofs.Lines.{Holds, Scripted, lines-add, rows-add}
use Rattle.reader.specs.declared.kinds.Phase.TheVariants as phases

-- from the settings to the fill, to the ROM, to the rows
module _ (file : List ℕ) (f o s : Sheet) (k : State) where
  to_fill : Rest phases.Settings f o s k → Holds file body.fill f o s [] k
  unfolding puts
  to_fill r = r

  to-rom : (l : List ℕ) → 1 ≤ length l → Holds file body.fill f o s l k → Holds file body.rom (puts f l) o s [] k
  unfolding puts
  to-rom [] h r = absurd (omega arith)
  to-rom (x ∷ l) h r = r

  to_rows : (l : List ℕ) → Holds file body.rom f o s l k → Scripted file f (puts o l) s [] k
  unfolding puts
  to_rows [] r = (phases.Fill, (open_in.fill, r))
  to_rows (x ∷ l) r = (phases.Rom, (open_in.rom, r))

-- what the text of settings, fill, ROM and script says
module _ (file a b c d : List ℕ) (sa : Bytes a) (sb : Bytes b) (sc : Bytes c) (sd : Bytes d) (two : length a ≡ 2) (least : 1 ≤ length b)
    (formed : script_formed d ≡ true) where
  abbrev pub number : ℕ
  number = field 2 a 0

  small : number < 65536
  small =
      let l : byte_at a 0 < 256 = byte_fits a 0 sa in
      let h : byte_at a 1 < 256 = byte_fits a 1 sa in
      omega arith

  pair : number % 256 ∷ number / 256 ∷ [] ≡ a
  pair =
      let e : byte_at a 0 ∷ byte_at a 1 ∷ [] ≡ a = sym (listed 2 a 0 (omega arith)) ∙ take_all 2 a (omega arith) in
      rw (lo_back (byte_at a 0) (byte_at a 1) (byte_fits a 0 sa), hi-back (byte_at a 0) (byte_at a 1) (byte_fits a 0 sa)) e

  abbrev pub text : List ℕ
  text = settings_text number ++ (lines_text (codes "fill") b ++ (lines_text (codes "rom") c ++ script_text d))

  module _ (f o s : Sheet) where
    abbrev k₁ : State
    k₁ = runs file (made reading.start_of f o s) (settings_text number)

    abbrev k₂ : State
    k₂ = runs file k₁ (lines_text (codes "fill") b)

    abbrev k₃ : State
    k₃ = runs file k₂ (lines_text (codes "rom") c)

    said_1 : Rest phases.Settings (puts f a) o s k₁
    said_1 = subst (λ (l : List ℕ). Rest phases.Settings (puts f l) o s k₁) pair (settings-line number small file f o s)

    said_2 : Holds file body.rom (puts (puts f a) b) o s [] k₂
    said_2 = to-rom file (puts f a) o s k₂ b least (lines-add file body.fill (puts f a) o s b sb k₁ (to_fill file (puts f a) o s k₁ said_1))

    said_3 : Scripted file (puts (puts f a) b) (puts o c) s [] k₃
    said_3 = to_rows file (puts (puts f a) b) o s k₃ c (lines-add file body.rom (puts (puts f a) b) o s c sc k₂ said_2)

    joined : runs file (made reading.start_of f o s) text ≡ runs file k₃ (script_text d)
    unfolding runs
    joined =
        foldl-append (stepped file) (made reading.start_of f o s) (settings_text number) (lines_text (codes "fill") b ++ (lines_text (codes "rom") c ++ script_text d))
        ∙ foldl-append (stepped file) k₁ (lines_text (codes "fill") b) (lines_text (codes "rom") c ++ script_text d)
        ∙ foldl-append (stepped file) k₂ (lines_text (codes "rom") c) (script_text d)

    pub says : Scripted file (puts (puts f a) b) (puts o c) s d (runs file (made reading.start_of f o s) text)
    says =
        subst (λ (k : State). Scripted file (puts (puts f a) b) (puts o c) s d k) (sym joined)
        (rows-add file (puts (puts f a) b) (puts o c) s d sd formed k₃ said_3)

    -- and no character of it belongs to a file name
    pub nameless : Unnamed reading.start_of text
    nameless =
        unnamed_runs file (made reading.start_of f o s) (settings_text number) (lines_text (codes "fill") b ++ (lines_text (codes "rom") c ++ script_text d))
        (settings-nameless number small)
        (unnamed_runs file k₁ (lines_text (codes "fill") b) (lines_text (codes "rom") c ++ script_text d)
        (lines-nameless file body.fill (puts f a) o s b sb k₁ (to_fill file (puts f a) o s k₁ said_1))
        (unnamed_runs file k₂ (lines_text (codes "rom") c) (script_text d) (lines-nameless file body.rom (puts (puts f a) b) o s c sc k₂ said_2)
        (script-nameless file (puts (puts f a) b) (puts o c) d sd formed s k₃ said_3)))
