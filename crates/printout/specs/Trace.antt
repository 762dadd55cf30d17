-- The whole texts that the programs trace (document 01, "Bench file") and sums print for a file.
use Rattle.std.specs.Prelude.{ℕ, zero, suc, ◌+◌, ◌-◌, ◌/◌, List, [], ◌++◌, eqb, length, replicate}
use Rattle.common.specs.Pick.{pick}
use Rattle.append.specs.Sheet.{shown_of}
use Rattle.bench.specs.Calls.{Desk, desk}
use Rattle.benchfile.specs.{File.body_of, Row.row_bytes, Row.row_of}
use Rattle.script.specs.Row.{row_run}
use Rattle.printout.specs.{Row.text_of, Rows.Standing}
use Rattle.wording.specs.Line.{sum_text, refused_text}
use Rattle.printout.specs.declared.{row.Show.Show, row.Show.TheVariants.Line, row.Show.TheVariants.Sum}
use Rattle.start.specs.Start.{filled_by, made_for, refusal_of}
use Rattle.wram.specs.Sum.{ram_sum}

-- what is shown of n rows from row i on, each lent what the last left, up to a refusal
unfoldable pub lines_from : List ℕ → List ℕ → Show → ℕ → ℕ → Desk → List ℕ
lines_from rom script show zero i d = []
lines_from rom script show (suc n) i d =
    let r = row_run rom (row_of (row_bytes script i)) d in
    text_of show (i + 1) (row_bytes script i) r ++ pick (eqb r.number 0) (lines_from rom script show n (i + 1) r.desk) []

-- what is still to be printed from where a script stands
abbrev pub rest_of : List ℕ → List ℕ → Show → Standing → List ℕ
rest_of rom script show s = pick (eqb s.number 0) (lines_from rom script show (length script / 8 - s.next) s.next s.desk) []

-- the text in the buffer, and what is still to be printed
unfoldable pub whole_of : List ℕ → List ℕ → Show → Standing → List ℕ
whole_of rom script show s = shown_of s.out ++ rest_of rom script show s

-- 65,536 bytes before anything is written to them
unfoldable pub zeros : List ℕ
zeros = replicate 65536 0

-- both banks filled, a fresh bench beside them, a record of zeros
abbrev pub first_desk : List ℕ → Desk
first_desk f = desk (made_for f zeros zeros).bench (filled_by f zeros) (filled_by f zeros) zeros

-- what is shown of the file's rows
abbrev pub rows_text : Show → List ℕ → List ℕ
rows_text show f = let script = body_of f 3 in lines_from (body_of f 2) script show (length script / 8) 0 (first_desk f)

-- the lines of the file's rows, or its only line
unfoldable pub trace_text : List ℕ → List ℕ
trace_text f = let n = refusal_of f zeros zeros in pick (eqb n 0) (rows_text Line f) (refused_text n)

-- the sum after each row; nothing for a file that cannot be run
unfoldable pub sums_text : List ℕ → List ℕ
sums_text f = pick (eqb (refusal_of f zeros zeros) 0) (rows_text Sum f) []

-- the same lines, with all bytes of both banks added up after each row
unfoldable pub added_lines : List ℕ → List ℕ → ℕ → ℕ → Desk → List ℕ
added_lines rom script zero i d = []
added_lines rom script (suc n) i d =
    let r = row_run rom (row_of (row_bytes script i)) d in
    sum_text (i + 1) (ram_sum r.desk.ram) ++ pick (eqb r.number 0) (added_lines rom script n (i + 1) r.desk) []
