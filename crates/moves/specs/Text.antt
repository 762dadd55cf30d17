-- The lines of one call (docs/MOVES.md): a cycle's accesses and the end of its row, the access of a read or a write row, the end of a
-- row of back steps, a refusal.
use Rattle.std.specs.Prelude.{ℕ, ◌%◌, Bool, true, false, ◌&&◌, List, [], ◌++◌, eqb, ltb}
use Rattle.common.specs.Pick.{pick}
use Rattle.benchfile.specs.declared.row.Row.{Row}
use Rattle.benchfile.specs.declared.row.Row.TheVariants.{Cycles, Read, Write, Pad, Plug, Answer as Reply, Back, Broken}
use Rattle.bus.specs.declared.access.Access.{Access}
use Rattle.listing.specs.{Cycle.cycle_text, Line.access_text}
use Rattle.listing.specs.Event.{back_text, refused_text, end_text}
use Rattle.state.specs.declared.Machine.{Machine}
use Rattle.touch.specs.Reach.{reach_of}
use Rattle.touch.specs.declared.who.Who.TheVariants.{Cpu}
use Rattle.walk.specs.{Call.Answered, declared.stand.Stand.Stand}

-- by its fields
abbrev pub access : Bool → ℕ → ℕ → ℕ → Access
access write bank addr byte = record { write = write; bank = bank; addr = addr; byte = byte }

-- an access of the CPU, with WMADD as the machine has it; or its refusal
unfoldable pub cpu_text : ℕ → ℕ → Machine → Access → ℕ → List ℕ
cpu_text row only m a number =
    pick (eqb number 0) (access_text (record { row = row; clock = m.board.clock; only = only; who = Cpu }) a (reach_of Cpu m.io.wmadd a) false)
    (refused_text row m.board.clock number)

-- back steps, at the last of their count or at a refused one
unfoldable pub returned_text : ℕ → ℕ → ℕ → ℕ → ℕ → ℕ → List ℕ
returned_text row clock number done count origin =
    pick (eqb number 0 && ltb done count) [] (back_text row clock done count origin ++ refused_text row clock number)

-- by the row's kind: the machine before, the answer, where the script stands with the call counted, the clock after
unfoldable pub step_text : ℕ → ℕ → Machine → Row → Answered → Stand → ℕ → ℕ → List ℕ
step_text row only m (Cycles count event due timer) o s clock origin =
    cycle_text row only m o.log o.edge ++ end_text row clock only o.number s.held s.done count
step_text row only m (Read bank addr) o s clock origin = cpu_text row only m (access false bank addr (o.byte % 256)) o.number
step_text row only m (Write bank addr byte) o s clock origin = cpu_text row only m (access true bank addr byte) o.number
step_text row only m (Pad port word) o s clock origin = refused_text row clock o.number
step_text row only m (Plug port on) o s clock origin = refused_text row clock o.number
step_text row only m (Reply addr byte) o s clock origin = refused_text row clock o.number
step_text row only m (Back count) o s clock origin = returned_text row clock o.number s.done count origin
step_text row only m Broken o s clock origin = refused_text row clock o.number
