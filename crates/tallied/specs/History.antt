-- The figures of a script over the history of its run (document 02, 4/12): all accepted operations, and those that survive (demand 3).
use Rattle.std.specs.Prelude.{ℕ, zero, suc, false, List, [], ◌∷◌, ◌++◌, map, reverse, eqb}
use Rattle.common.specs.Pick.{pick}
use Rattle.bench.specs.Calls.{Desk, event_of}
use Rattle.benchfile.specs.Row.{row_at}
use Rattle.benchfile.specs.declared.row.Row.{Row}
use Rattle.benchfile.specs.declared.row.Row.TheVariants.{Cycles, Read, Write, Pad, Plug, Answer as Reply, Back, Broken}
use Rattle.machine.specs.Cycle.{cycled}
use Rattle.rewind.specs.History.{Deed, did, struck, nothing, survivors}
use Rattle.rewind.specs.Rules.{Op, cycle, read, write, pad, plug, answer, State}
use Rattle.rewind.specs.Run.{Call, operation, back, called, Met, deeds_at}
use Rattle.script.specs.Run.{first_of, first_flag}
use Rattle.state.specs.declared.DmaState.TheVariants.{Idle}
use Rattle.tally.specs.Figure.{Made, figures_of}
use Rattle.tally.specs.Run.{limit_of}
use Rattle.touch.specs.declared.who.Who.TheVariants.{Cpu}
use Rattle.tallied.specs.Tied.{cycle_made}

-- an operation that is no cycle: it is not held, and the DMA unit does nothing in it
abbrev pub no_cycle : Made
no_cycle = record { who = Cpu; held = false; after = Idle; accesses = [] }

-- what an operation made in the state that it met, by demand 2's rules
abbrev pub made_in : List ℕ → Op → State → Made
made_in rom (cycle event line timer) s = cycle_made s.machine (cycled rom s.machine s.ram.low s.ram.high (event_of event) line timer)
made_in rom (read bank addr) s = no_cycle
made_in rom (write bank addr byte) s = no_cycle
made_in rom (pad port w) s = no_cycle
made_in rom (plug port on) s = no_cycle
made_in rom (answer addr byte) s = no_cycle

-- the same of an operation with the state that it met
abbrev pub made_of : List ℕ → Met → Made
made_of rom m = made_in rom m.op m.was

-- call i of a row; a broken row has none, and no sound script has one
abbrev pub call_at : Row → ℕ → Call
call_at (Cycles count event due timer) i = operation (cycle (first_of i event) (first_flag i due) (first_flag i timer))
call_at (Read bank addr) i = operation (read bank addr)
call_at (Write bank addr byte) i = operation (write bank addr byte)
call_at (Pad port word) i = operation (pad port word)
call_at (Plug port on) i = operation (plug port on)
call_at (Reply addr byte) i = operation (answer addr byte)
call_at (Back count) i = back
call_at Broken i = back

-- the first n calls of a row
unfoldable pub first_calls : Row → ℕ → List Call
first_calls says zero = []
first_calls says (suc n) = first_calls says n ++ call_at says n ∷ []

-- the calls of the first n rows of a script, as many of each as its limit says
unfoldable pub calls_of : List ℕ → List ℕ → ℕ → List Call
calls_of script limits zero = []
calls_of script limits (suc n) = calls_of script limits n ++ first_calls (row_at script n) (limit_of limits n (row_at script n))

-- those before the first that is refused
unfoldable pub accepted_of : List ℕ → Desk → List Call → List Call
accepted_of rom d [] = []
accepted_of rom d (c ∷ cs) = let r = called rom c d in pick (eqb r.number 0) (c ∷ accepted_of rom r.desk cs) []

-- the operations that were accepted, struck later or not
unfoldable pub done_of : {Op : Type 0} → List (Deed Op) → List Op
done_of [] = []
done_of (did o ∷ ds) = o ∷ done_of ds
done_of (struck ∷ ds) = done_of ds
done_of (nothing ∷ ds) = done_of ds

-- what the calls did, up to the first that is refused
abbrev pub history_of : List ℕ → Desk → List Call → List (Deed Met)
history_of rom d cs = deeds_at rom d (accepted_of rom d cs)

-- the figures of all accepted operations
unfoldable pub all_of : List ℕ → Desk → List Call → List ℕ
all_of rom d cs = figures_of (map (made_of rom) (done_of (history_of rom d cs)))

-- and of the survivors alone, in the order made
unfoldable pub alive_of : List ℕ → Desk → List Call → List ℕ
alive_of rom d cs = figures_of (map (made_of rom) (reverse (survivors (history_of rom d cs))))
