-- A row of several calls (document 01, "Bench file"): each is lent what the last left; the row stops at the first refusal.
use Rattle.std.specs.Prelude.{ℕ, zero, suc, ◌+◌, ◌%◌, ◌^◌, Bool, false, List, ◌==◌}
use Rattle.common.specs.Pick.{pick}
use Rattle.bench.specs.Calls.{Desk, CycleOut, cycle_call, PlainOut, back_call}
use Rattle.common.specs.Refusal.{number_of}
use Rattle.script.specs.{Rig.desk_of, declared.repeat.Ran.Ran, declared.rig.Rig.Rig}

-- what a row has come to: the refusal or 0, its numbers A and B, and what it leaves
pub record Running : Type 0 where
  pub number : ℕ
  pub a : ℕ
  pub b : ℕ
  pub desk : Desk

-- the same, of what the code returns and what it ran on
abbrev pub ran : Ran → Rig → Running
ran r g = record { number = number_of r.refusal; a = r.a; b = r.b; desk = desk_of g }

-- a row before its first call
abbrev pub start : Desk → Running
start d = record { number = 0; a = 0; b = 0; desk = d }

-- event and flags hold for the first cycle
abbrev pub first_of : ℕ → ℕ → ℕ
first_of i x = pick (i == 0) x 0

-- the same for a flag
abbrev pub first_flag : ℕ → Bool → Bool
first_flag i x = pick (i == 0) x false

-- one more where a call counts
abbrev pub plus_one : ℕ → Bool → ℕ
plus_one n counts = pick counts ((n + 1) % 2 ^ 32) n

-- A counts the accepted cycles, B those held
abbrev pub counted : Running → CycleOut → Running
counted s o = record { number = o.number; a = plus_one s.a (o.number == 0); b = plus_one s.b o.held; desk = o.desk }

-- one cycle more, unless one was refused
unfoldable pub cycle_step : List ℕ → ℕ → Bool → Bool → Running → Running
cycle_step rom event line timer s = pick (s.number == 0) (counted s (cycle_call rom s.desk event line timer)) s

-- n cycles
unfoldable pub cycles_run : List ℕ → ℕ → Bool → Bool → ℕ → Desk → Running
cycles_run rom event line timer zero d = start d
cycles_run rom event line timer (suc i) d =
    cycle_step rom (first_of i event) (first_flag i line) (first_flag i timer) (cycles_run rom event line timer i d)

-- A counts the accepted back steps
abbrev pub struck : Running → PlainOut → Running
struck s o = record { number = o.number; a = plus_one s.a (o.number == 0); b = s.b; desk = o.desk }

-- one back step more, unless one was refused
unfoldable pub back_step : Running → Running
back_step s = pick (s.number == 0) (struck s (back_call s.desk)) s

-- n back steps
unfoldable pub backs_run : ℕ → Desk → Running
backs_run zero d = start d
backs_run (suc i) d = back_step (backs_run i d)
