-- A row of the script run, and what is shown of it behind the text before it (document 01): "row, kind, refusal or 0, A, B"; or row and sum.
use Rattle.std.specs.Prelude.{ℕ, List, []}
use Rattle.bench.specs.Calls.{Desk}
use Rattle.fields.specs.Bytes.{byte_at}
use Rattle.benchfile.specs.Row.{row_of}
use Rattle.script.specs.{Run.Running, Run.ran, Row.row_run, declared.repeat.Ran.Ran, declared.rig.Rig.Rig}
use Rattle.append.specs.Sheet.{Sheet, puts}
use Rattle.append.specs.Lent as lent
use Rattle.append.specs.declared.Sheet.{Sheet as Lent}
use Rattle.wording.specs.Line.{line_text, sum_text}
use Rattle.printout.specs.declared.{row.Show.Show, row.Show.TheVariants.Nothing, row.Show.TheVariants.Line, row.Show.TheVariants.Sum}

-- what a row has come to, and the buffer with what is shown of it
pub record Shown : Type 0 where
  pub ran : Running
  pub out : Sheet

-- the same, of what the code returns, what it ran on and the buffer
abbrev pub shown : Ran → Rig → Lent → Shown
shown r g out = record { ran = ran r g; out = lent.shown out }

-- nothing for a page, a line for a trace, the sum beside the machine for the sums
unfoldable pub shown_text : Show → (row kind number a b sum : ℕ) → List ℕ
shown_text Nothing row kind number a b sum = []
shown_text Line row kind number a b sum = line_text row kind number a b
shown_text Sum row kind number a b sum = sum_text row sum

-- what is shown of a row that came to r: its number in the script, its kind, and what it came to
abbrev pub text_of : Show → ℕ → List ℕ → Running → List ℕ
text_of show number row r = shown_text show number (byte_at row 0) r.number r.a r.b r.desk.bench.sum

-- that put behind the text
abbrev pub with_text : Show → ℕ → List ℕ → Sheet → Running → Shown
with_text show number row t r = record { ran = r; out = puts t (text_of show number row r) }

-- the row of 8 bytes, run on a desk
unfoldable pub row_shown : List ℕ → List ℕ → ℕ → Show → Desk → Sheet → Shown
row_shown rom row number show d t = with_text show number row t (row_run rom (row_of row) d)
