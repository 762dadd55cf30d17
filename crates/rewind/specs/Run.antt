-- Runs of the public calls, each lent what the last left; what a call does is its own definition (crate bench, specs/Calls.antt).
use Rattle.std.specs.Prelude.{ℕ, List, [], ◌∷◌, eqb}
use Rattle.bench.specs.Calls.{Desk, cycle_call, read_call, write_call, pad_call, plug_call, answer_call, back_call}
use Rattle.common.specs.{Pick.pick, Width.Bytes}
use Rattle.rewind.specs.History.{Deed, did, struck, nothing}
use Rattle.rewind.specs.Rules.{Op, cycle, read, write, pad, plug, answer, State, Typed}
use Rattle.state.specs.Fit.{FitMachine}

-- an operation or a back step
pub data Call : Type 0 where
  operation : Op → Call
  back : Call

-- a ROM, a machine and banks of their types
pub record TypedDesk (rom : List ℕ) (d : Desk) : Type 0 where
  pub rom-bytes : Bytes rom
  pub machine : FitMachine d.bench.machine
  pub low : Bytes d.ram.low
  pub high : Bytes d.ram.high

-- arguments of their types
abbrev pub TypedCall : Call → Type 0
TypedCall (operation o) = Typed o
TypedCall back = Unit {0}

-- the refusal or 0, and what the call leaves
pub record Reply : Type 0 where
  pub number : ℕ
  pub desk : Desk

-- each call by its own definition
unfoldable pub called : List ℕ → Call → Desk → Reply
called rom (operation (cycle event line timer)) d = let r = cycle_call rom d event line timer in record { number = r.number; desk = r.desk }
called rom (operation (read bank addr)) d = let r = read_call rom d bank addr in record { number = r.number; desk = r.desk }
called rom (operation (write bank addr byte)) d = let r = write_call rom d bank addr byte in record { number = r.number; desk = r.desk }
called rom (operation (pad port w)) d = let r = pad_call rom d port w in record { number = r.number; desk = r.desk }
called rom (operation (plug port on)) d = let r = plug_call rom d port on in record { number = r.number; desk = r.desk }
called rom (operation (answer addr byte)) d = let r = answer_call rom d addr byte in record { number = r.number; desk = r.desk }
called rom back d = let r = back_call d in record { number = r.number; desk = r.desk }

-- demand 3's state of a desk: next slot, kept, the sum and the record are no part of it
abbrev pub state_of : Desk → State
state_of d = record { machine = d.bench.machine; ram = d.ram }

-- what a call did, by its number
abbrev pub made : Call → Deed Op
made (operation o) = did o
made back = struck

-- a refused call did nothing
abbrev pub deed : Call → ℕ → Deed Op
deed c number = pick (eqb number 0) (made c) nothing

-- an operation, and the state that it met
pub record Met : Type 0 where
  pub op : Op
  pub was : State

-- what a call did, with the state that it met
abbrev pub made_at : Call → Desk → Deed Met
made_at (operation o) d = did (record { op = o; was = state_of d })
made_at back d = struck

-- by its number: a refused call did nothing
abbrev pub deed_at : Call → Desk → ℕ → Deed Met
deed_at c d number = pick (eqb number 0) (made_at c d) nothing

module _ (rom : List ℕ) where
  -- what the calls leave
  unfoldable pub run : Desk → List Call → Desk
  run d [] = d
  run d (c ∷ cs) = run (called rom c d).desk cs

  -- what the calls did
  unfoldable pub deeds : Desk → List Call → List (Deed Op)
  deeds d [] = []
  deeds d (c ∷ cs) = deed c (called rom c d).number ∷ deeds (called rom c d).desk cs

  -- what the calls did, with the states that they met
  unfoldable pub deeds_at : Desk → List Call → List (Deed Met)
  deeds_at d [] = []
  deeds_at d (c ∷ cs) = deed_at c d (called rom c d).number ∷ deeds_at (called rom c d).desk cs
