-- One call of a script row (document 01, "Bench file"): a cycle, a back step, or the call of a row that is only one.
use Rattle.std.specs.Prelude.{ℕ, Bool, true, false, List}
use Rattle.bench.specs.Calls.{Desk, CycleOut, cycle_call, PlainOut, back_call}
use Rattle.benchfile.specs.declared.row.Row.{Row}
use Rattle.benchfile.specs.declared.row.Row.TheVariants.{Cycles, Read, Write, Pad, Plug, Answer as Reply, Back, Broken}
use Rattle.bus.specs.{Access.no_log, Access.Log}
use Rattle.common.specs.Refusal.{number_of}
use Rattle.script.specs.Row.{row_run}
use Rattle.script.specs.Run.{Running, first_of, first_flag}
use Rattle.script.specs.{Rig.desk_of, declared.rig.Rig.Rig}
use Rattle.walk.specs.declared.call.Answer.{Answer}

-- what a call answers: its refusal or 0, and the rest as the code has it
pub record Answered : Type 0 where
  pub number : ℕ
  pub byte : ℕ
  pub cost : ℕ
  pub held : Bool
  pub edge : Bool
  pub back : Bool
  pub count : ℕ
  pub log : Log

-- the same, of what the code returns
abbrev pub answered : Answer → Answered
answered a = record {
  number = number_of a.refusal;
  byte = a.byte;
  cost = a.cost;
  held = a.held;
  edge = a.edge;
  back = a.back;
  count = a.count;
  log = a.log;
}

-- what a call answers and leaves
pub record Calling : Type 0 where
  pub answer : Answered
  pub desk : Desk

-- the same, of what the code returns and what it ran on
abbrev pub calling : Answer → Rig → Calling
calling a g = record { answer = answered a; desk = desk_of g }

-- the answer of a cycle of a row of n
abbrev pub cycle_answer : ℕ → CycleOut → Answered
cycle_answer n o = record { number = o.number; byte = 0; cost = 0; held = o.held; edge = o.edge; back = false; count = n; log = o.log }

-- that of a call that is no cycle: refusal or 0, byte, cost, whether it is a back step, of a row of n
abbrev pub plain_answer : ℕ → ℕ → ℕ → Bool → ℕ → Answered
plain_answer number byte cost back n = record { number = number; byte = byte; cost = cost; held = false; edge = false; back = back; count = n; log = no_log }

-- a cycle of a row of n
abbrev pub cycle_called : ℕ → CycleOut → Calling
cycle_called n o = record { answer = cycle_answer n o; desk = o.desk }

-- a back step of a row of n
abbrev pub back_called : ℕ → PlainOut → Calling
back_called n o = record { answer = plain_answer o.number 0 0 true n; desk = o.desk }

-- a row that is one call: its byte and cost are the row's A and B
abbrev pub row_called : Running → Calling
row_called r = record { answer = plain_answer r.number r.a r.b false 1; desk = r.desk }

-- the call after i others of its row; event and flags hold for the first cycle
unfoldable pub call_of : List ℕ → ℕ → Row → Desk → Calling
call_of rom i (Cycles count event due timer) d = cycle_called count (cycle_call rom d (first_of i event) (first_flag i due) (first_flag i timer))
call_of rom i (Read bank addr) d = row_called (row_run rom (Read bank addr) d)
call_of rom i (Write bank addr byte) d = row_called (row_run rom (Write bank addr byte) d)
call_of rom i (Pad port word) d = row_called (row_run rom (Pad port word) d)
call_of rom i (Plug port on) d = row_called (row_run rom (Plug port on) d)
call_of rom i (Reply addr byte) d = row_called (row_run rom (Reply addr byte) d)
call_of rom i (Back count) d = back_called count (back_call d)
call_of rom i Broken d = row_called (row_run rom Broken d)
