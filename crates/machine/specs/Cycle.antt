-- One master cycle (document 01, "Calls"): buttons; event; automatic joypad; line due; NMI edge; timer hit; DMA; clock plus 1.
use Rattle.std.specs.Prelude.{ℕ, ◌+◌, ◌%◌, ◌^◌, Bool, not, ◌&&◌, ◌||◌, List, ◌==◌}
use Rattle.common.specs.Pick.{pick}
use Rattle.bus.specs.{Access.opened, View.hdmaen_of, World.world}
use Rattle.dma.specs.Cycle.{Held, updated}
use Rattle.hdma.specs.Engine.{DmaWorld, at, with_pending, with_init}
use Rattle.registers.specs.declared.Io.{Io}
use Rattle.signals.specs.Flags.{nmi_line}
use Rattle.state.specs.declared.{Board.Board, Dma.Dma, Machine.Machine}
use Rattle.machine.specs.Event.{settled, timed, is_frame}
use Rattle.machine.specs.declared.event.Event.{Event}

-- with HDMAEN not 0 a line due makes a pass pending, and a frame's start one that initialises; a frame's start inside a pass has the
-- channels that are left in its queue initialise
unfoldable pub armed : Dma → ℕ → Bool → Bool → Dma
armed d mask frame line = pick (mask == 0) d (with_init (with_pending d (d.pending || frame || line)) (d.init || frame))

-- the NMI line was low and is high
abbrev pub rising : Bool → Bool → Bool
rising was line = line && not was

-- the NMI line is kept, and the clock goes one up
abbrev pub ticked : Board → Bool → Board
ticked b nmi = record { pad1 = b.pad1; pad2 = b.pad2; nmi = nmi; bitcycles = b.bitcycles; clock = (b.clock + 1) % 2 ^ 64 }

-- what a cycle leaves: the DMA unit with the world of the bus, the board, held and NMI edge
pub record Turned : Type 0 where
  pub after : DmaWorld
  pub board : Board
  pub held : Bool
  pub edge : Bool

-- the machine that a cycle leaves
abbrev pub machine_after : Turned → Machine
machine_after t = record { io = t.after.world.core.io; dma = t.after.dma; board = t.board }

-- the registers after buttons, event and automatic joypad
abbrev pub settled_of : Machine → Event → Io
settled_of m event = settled m.io m.board.pad1 m.board.pad2 event m.board.bitcycles

-- what the DMA unit begins with: nothing done on the bus, a pass pending where one is due
abbrev pub begun : Machine → List ℕ → List ℕ → Event → Bool → Bool → DmaWorld
begun m l h event line hit =
    let k = opened (timed (settled_of m event) hit) in at (world k l h) (armed m.dma (hdmaen_of k) (is_frame event) line)

-- DMA unit, board, held and edge put together
abbrev pub turn_of : Held → Machine → Bool → Turned
turn_of d m nmi = record { after = d.after; board = ticked m.board nmi; held = d.held; edge = rising m.board.nmi nmi }

-- the whole cycle; the NMI line is as it stands before the timer's hit
unfoldable pub cycled : List ℕ → Machine → List ℕ → List ℕ → Event → Bool → Bool → Turned
cycled rom m l h event line hit = turn_of (updated rom (begun m l h event line hit) m.board.clock) m (nmi_line (settled_of m event))
