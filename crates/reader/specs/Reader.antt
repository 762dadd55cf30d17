-- The text form (docs/BENCH.md), one character after the other.
use Rattle.std.specs.Prelude.{ℕ, ◌+◌, Bool, true, false, Option, Some, None}
use mathlib.Core.List.{List, [], ◌∷◌, foldl}
use Rattle.common.specs.Pick.{pick}
use Rattle.reader.specs.declared.{draft.Draft.Draft, word.Word.Word, word.Form.Form, reader.Reader.Reader, sign.Sign.Sign, kinds.Expected.Expected}
use Rattle.reader.specs.declared.kinds.Phase.TheVariants as phase
use Rattle.reader.specs.declared.kinds.Kind.TheVariants as kind
use Rattle.reader.specs.declared.kinds.Expected.TheVariants as next
use Rattle.reader.specs.declared.kinds.Emit.TheVariants as emit
use Rattle.reader.specs.declared.word.Form.TheVariants as form
use Rattle.reader.specs.declared.sign.Sign.TheVariants as sign
use Rattle.reader.specs.{Letter.sign_of, Letter.digit_of, Draft.draft, Line.taken_of, Line.line_of, Draft.has_failed}
use Rattle.reader.specs.Word.{blank_word, bad_word, in_name, letter_of, dollar_of, colon_of, meaning_of}

-- by its fields
abbrev pub reader : Word → Draft → Reader
reader w d = record { word = w; draft = d }

-- before the first character
abbrev pub start_of : Reader
start_of = reader (blank_word form.Between) (draft phase.Nothing next.Line kind.Nothing 0 0 0 0 emit.Nothing)

-- what was completed before is done with
abbrev pub quiet_of : Draft → Draft
quiet_of d = draft d.phase d.expected d.kind d.b1 d.b2 d.b3 d.b4 emit.Nothing

-- no word: between words, comment, file name
abbrev pub idle_of : Form → Bool
idle_of form.Between = true
idle_of form.Comment = true
idle_of form.Name = true
idle_of _ = false

-- the draft when the word ends
unfoldable pub shut_of : Word → Draft → Draft
shut_of w d = pick (idle_of w.form) d (taken_of d (meaning_of w))

-- behind `file` comes the name
abbrev pub gap_of : Expected → Form
gap_of next.FileName = form.Name
gap_of _ = form.Between

-- a space
unfoldable pub spaced_of : Word → Draft → Reader
spaced_of w d = reader (blank_word (gap_of (shut_of w d).expected)) (shut_of w d)

-- a character of a file name, by its sign
unfoldable pub naming_of : Word → Draft → Sign → Reader
naming_of w d sign.Comment = reader (blank_word form.Comment) d
naming_of w d sign.Space = reader w d
naming_of w d _ = reader w (draft d.phase next.End d.kind d.b1 d.b2 d.b3 d.b4 d.emit)

-- a digit or letter, if it is one
abbrev pub digit_in : Word → Option ℕ → Word
digit_in w (Some d) = letter_of w d
digit_in w None = bad_word

-- a character of a word or a number
unfoldable pub plain_of : Word → Sign → ℕ → Word
plain_of w sign.Dollar c = dollar_of w
plain_of w sign.Colon c = colon_of w
plain_of w _ c = digit_in w (digit_of c)

-- a character of a line, outside of comments and file names
abbrev pub lined : Word → Draft → Sign → ℕ → Reader
lined w d sign.Comment c = reader (blank_word form.Comment) (shut_of w d)
lined w d sign.Space c = spaced_of w d
lined w d s c = reader (plain_of w s c) d

abbrev pub formed : Form → Word → Draft → Sign → ℕ → Reader
formed form.Comment w d s c = reader w d
formed form.Name w d s c = naming_of w d s
formed _ w d s c = lined w d s c

-- a character of sign s, where nothing has failed and d is quiet
unfoldable pub step_of : Word → Draft → Sign → ℕ → Reader
step_of w d sign.LineEnd c = reader (blank_word form.Between) (line_of (shut_of w d))
step_of w d s c = formed w.form w d s c

-- one character more; after a failure nothing changes
unfoldable pub read_of : Reader → ℕ → Reader
read_of r c = pick (has_failed r.draft) r (step_of r.word (quiet_of r.draft) (sign_of c) c)

-- the place of the first character at which a test of it and the reader before it holds, where the first of all has place i
unfoldable pub until_from : (Reader → ℕ → Bool) → ℕ → Reader → List ℕ → Option ℕ
until_from test i r [] = None
until_from test i r (c ∷ t) = pick (test r c) (Some i) (until_from test (i + 1) (read_of r c) t)

-- the text fails at this character
abbrev pub fails_at : Reader → ℕ → Bool
fails_at r c = has_failed (read_of r c).draft

-- the place at which the text fails
abbrev pub fault_of : Reader → List ℕ → Option ℕ
fault_of = until_from fails_at 0

-- the place where a file name starts
abbrev pub name_at : Reader → List ℕ → Option ℕ
name_at = until_from (λ r c. in_name r.word) 0

-- all characters of a text
unfoldable pub reads : Reader → List ℕ → Reader
reads r t = foldl read_of r t
