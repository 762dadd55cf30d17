-- The line of the settings: it comes back, and adds their two bytes.
use Prim.Native.Nat.{ℕ, ◌/◌, ◌%◌, ◌<◌}
use mathlib.Core.List.{List, [], ◌∷◌, ◌++◌}
use mathlib.Core.Path.{◌≡◌, refl, ap, ◌∙◌}
use native.Mathlib.Omega.{arith}
use borrow.Author.Tests.{le-leb}
use Rattle.append.specs.{Sheet.Sheet, Sheet.puts, Number.decimal, Texts.codes}
use Rattle.reader.specs.declared.reader.Reader.{Reader}
use Rattle.reader.specs.{Letter.sign_of, Letter.digit_of, Draft.draft, Draft.keyword_of}
use Rattle.reader.specs.Word.{word, letter_of, meaning_of}
use Rattle.reader.specs.Number.{number_of}
use Rattle.reader.specs.Line.{named_of, taken_of, closing_of, line_of}
use Rattle.reader.specs.Reader.{reader, start_of, shut_of, spaced_of, plain_of, step_of, read_of}
use Rattle.lister.specs.List.{settings_text}
use Rattle.assembler.specs.Desk.{State, front_of, rom_of, script_of, runs, made, added}
use Rattle.bothways.proofs.{Quietly.loud, Quietly.quietly, Quietly.quietly_or, Quietly.not-loud, Quietly.quietly-runs, Decimal.decimal-back, Rows.before, Between.Rest}
use Rattle.reader.specs.declared.kinds.Phase.TheVariants as phases
use Rattle.reader.specs.declared.kinds.Expected.TheVariants as wants
use Rattle.reader.specs.declared.kinds.Kind.TheVariants as kinds
use Rattle.reader.specs.declared.kinds.Emit.TheVariants as emits
use Rattle.reader.specs.declared.word.Form.TheVariants as forms

-- `bitcycles `
settings-word : (t : List ℕ) → quietly start_of (codes "bitcycles " ++ t) ≡ quietly (reader (word forms.Between 0 0) (draft phases.Settings wants.BitCycles kinds.Bitcycles 0 0 0 0 emits.Nothing)) t
unfolding quietly_or read_of step_of plain_of letter_of sign_of digit_of spaced_of shut_of taken_of named_of keyword_of meaning_of
settings-word t = refl

module _ (n : ℕ) (small : n < 65536) where
  settings-end : quietly (reader (word forms.Decimal n 0) (draft phases.Settings wants.BitCycles kinds.Bitcycles 0 0 0 0 emits.Nothing)) (codes "\n") ≡ before phases.Settings kinds.Bitcycles (n % 256) (n / 256) 0 0 emits.Settings
  unfolding quietly_or read_of step_of sign_of shut_of taken_of number_of meaning_of line_of closing_of
  settings-end =
      let q : n / 256 % 256 ≡ n / 256 = omega arith in
      rw (le-leb 0 n (omega arith), le-leb n 65535 (omega arith), q)

  -- the settings come back
  pub settings-back : quietly start_of (settings_text n) ≡ before phases.Settings kinds.Bitcycles (n % 256) (n / 256) 0 0 emits.Settings
  unfolding settings_text
  settings-back = settings-word (decimal n ++ codes "\n") ∙ decimal-back loud phases.Settings wants.BitCycles kinds.Bitcycles 0 0 0 0 n (codes "\n") small ∙ settings-end

  module _ (file : List ℕ) (f o s : Sheet) where
    abbrev done : Reader
    done = before phases.Settings kinds.Bitcycles (n % 256) (n / 256) 0 0 emits.Settings

    none : made start_of f o s ≡ added file f o s start_of
    unfolding front_of rom_of script_of puts
    none = refl

    only : added file f o s done ≡ made done (puts f (n % 256 ∷ n / 256 ∷ [])) o s
    unfolding front_of rom_of script_of puts
    only = refl

    -- and are what the line adds
    pub settings-line : Rest phases.Settings (puts f (n % 256 ∷ n / 256 ∷ [])) o s (runs file (made start_of f o s) (settings_text n))
    settings-line =
        record {
          kind = kinds.Bitcycles;
          b1 = n % 256;
          b2 = n / 256;
          b3 = 0;
          b4 = 0;
          emit = emits.Settings;
          fine = refl;
          is =
              ap (λ (x : State). runs file x (settings_text n)) none
              ∙ quietly-runs (not-loud done refl) file f o s start_of (settings_text n) settings-back
              ∙ only;
        }
