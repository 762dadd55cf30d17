-- The count of a bench file: one run of all calls, and one of the survivors alone, each from fresh with the trace's record.
use Rattle.std.specs.Prelude.{ℕ, List, [], ◌∷◌, ◌==◌, Result, Ok, Err}
use Rattle.common.specs.Pick.{pick}
use Rattle.bench.specs.Calls.{Desk, desk}
use Rattle.fields.specs.Bytes.{part_of}
use Rattle.start.specs.Start.{Begun, start_run}
use Rattle.tally.specs.Alive.{rows}
use Rattle.tally.specs.Run.{Tallying, script_tallied}
use Rattle.common.specs.Refusal.{refusal_number}
use Rattle.tally.specs.declared.file.Refused.{Refused}

-- what a run of a file leaves: the refusal of the file or of the row that ended it, or 0; that row, or 0; what was lent
pub record FileRun : Type 0 where
  pub number : ℕ
  pub row : ℕ
  pub low : List ℕ
  pub high : List ℕ
  pub entries : List ℕ
  pub alive : List ℕ
  pub totals : List ℕ

-- the refusal of the file or of the row that ended a run, or 0; that row, or 0
pub record Halt : Type 0 where
  pub number : ℕ
  pub row : ℕ

-- the same, of what the code returns
abbrev pub halt_of : Result Unit Refused → Halt
halt_of (Ok u) = record { number = 0; row = 0 }
halt_of (Err x) = record { number = refusal_number x.refusal; row = x.row }

-- a run's halt, and the slices lent to it
abbrev pub file_ran : Halt → List ℕ → List ℕ → List ℕ → List ℕ → List ℕ → FileRun
file_ran r l h e alive totals =
    record { number = r.number; row = r.row; low = l; high = h; entries = e; alive = alive; totals = totals }

-- before the first row
abbrev pub first : Desk → List ℕ → List ℕ → Tallying
first d alive totals = record { desk = d; number = 0; row = 0; rows = rows 0 alive; totals = totals }

-- the row that was refused, or 0
abbrev pub row_by : ℕ → ℕ → ℕ
row_by number row = pick (number == 0) 0 row

-- after the last row
abbrev pub ended : Tallying → FileRun
ended t =
    let d = t.desk in
    file_ran (record { number = t.number; row = row_by t.number t.row }) d.ram.low d.ram.high d.entries t.rows.alive t.totals

-- the part of the file that its contents name
abbrev pub script_run : List ℕ → Begun → List ℕ → Tallying → Tallying
script_run f s limits t =
    script_tallied (part_of f s.rom.at s.rom.size) (part_of f s.script.at s.script.size) limits t

-- a run with limits; a file that cannot be run counts for nothing
unfoldable pub file_run : (f l h e limits alive totals : List ℕ) → FileRun
file_run f l h e limits alive totals =
    let s = start_run f l h in
    pick (s.start.number == 0) (ended (script_run f s.start limits (first (desk s.start.bench s.low s.high e) alive totals)))
    (file_ran (record { number = s.start.number; row = 0 }) s.low s.high e alive totals)

-- what both runs leave: refusal and row of the first, and which operations it found surviving; banks and record as the second left them;
-- the totals of each
pub record FileCount : Type 0 where
  pub number : ℕ
  pub row : ℕ
  pub low : List ℕ
  pub high : List ℕ
  pub entries : List ℕ
  pub alive : List ℕ
  pub all : List ℕ
  pub kept : List ℕ

-- the first run's halt, and the slices lent to both
abbrev pub file_counting : Halt → List ℕ → List ℕ → List ℕ → List ℕ → List ℕ → List ℕ → FileCount
file_counting r l h e alive all kept =
    record { number = r.number; row = r.row; low = l; high = h; entries = e; alive = alive; all = all; kept = kept }

-- a run of all calls, and then one of those that it found surviving
unfoldable pub file_count : (f l h e alive all kept : List ℕ) → FileCount
file_count f l h e alive all kept =
    let r = file_run f l h e [] alive all in
    let s = file_run f r.low r.high r.entries r.alive (0 ∷ []) kept in
    file_counting (record { number = r.number; row = r.row }) s.low s.high s.entries r.alive r.totals s.totals
