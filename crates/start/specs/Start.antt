-- A bench file before its first row (document 01, "Bench file"): a broken file is refused by 11, bad bit cycles by 10, and banks of another size
-- by 1, which no program lends; the fill is repeated over each bank, and fresh finds the banks so; the record has 65,536 bytes.
use Rattle.std.specs.Prelude.{ℕ, List, Result, Ok, Err, eqb}
use Rattle.common.specs.Pick.{pick}
use Rattle.ring.specs.declared.Bench.{Bench}
use Rattle.bench.specs.Calls.{FreshOut, no_bench, fresh_call}
use Rattle.common.specs.Refusal.{refusal_number}
use Rattle.common.specs.declared.refusal.Refusal.{Refusal}
use Rattle.ring.specs.Refusal.{also_of}
use Rattle.fields.specs.Little.{field}
use Rattle.benchfile.specs.File.{start_of, size_of, body_of, file_check}
use Rattle.start.specs.{Fill.filled, declared.Span.Span, declared.Started.Started}

-- where a section is in its file: its row of the contents
abbrev pub span_of : List ℕ → ℕ → Span
span_of f k = record { at = start_of f k; size = size_of f k }

-- no part of a file
abbrev pub nowhere : Span
nowhere = record { at = 0; size = 0 }

-- what is made of a file: its refusal or 0, the bench to run it on, its ROM and its script
pub record Begun : Type 0 where
  pub number : ℕ
  pub bench : Bench
  pub rom : Span
  pub script : Span

-- what a refused file leaves to run: nothing
abbrev pub halted : ℕ → Begun
halted n = record { number = n; bench = no_bench; rom = nowhere; script = nowhere }

-- a file that can be run
abbrev pub ready : List ℕ → Bench → Begun
ready f b = record { number = 0; bench = b; rom = span_of f 2; script = span_of f 3 }

-- what is made of a file, and both banks
pub record Starting : Type 0 where
  pub start : Begun
  pub low : List ℕ
  pub high : List ℕ

-- by its fields
abbrev pub started : Begun → List ℕ → List ℕ → Starting
started s l h = record { start = s; low = l; high = h }

-- the same, of what the code returns and both banks
abbrev pub answered : Result Started Refusal → List ℕ → List ℕ → Starting
answered (Ok s) l h = started (record { number = 0; bench = s.bench; rom = s.rom; script = s.script }) l h
answered (Err x) l h = started (halted (refusal_number x)) l h

-- a bank with the file's fill
abbrev pub filled_by : List ℕ → List ℕ → List ℕ
filled_by f bank = filled bank (body_of f 1)

-- fresh on the filled banks, with the record's 65,536 bytes and the settings' bit cycles
unfoldable pub made_for : (f l h : List ℕ) → FreshOut
made_for f l h = fresh_call (filled_by f l) (filled_by f h) 65536 (field 2 (body_of f 0) 0)

-- why a file cannot be run, or 0: a broken file is refused before its bit cycles are looked at
unfoldable pub refusal_of : (f l h : List ℕ) → ℕ
refusal_of f l h = also_of (file_check f) (made_for f l h).number

-- what is made of a file; a broken one leaves both banks as they were
unfoldable pub start_run : (f l h : List ℕ) → Starting
start_run f l h =
    let n = refusal_of f l h in
    let s = pick (eqb n 0) (ready f (made_for f l h).bench) (halted n) in
    pick (eqb (file_check f) 0) (started s (filled_by f l) (filled_by f h)) (started s l h)
