-- A cycle makes at most 11 accesses and overwrites at most 4 bytes; none is lost, and those put back give back both banks.
use Rattle.std.proofs.Common.{ℕ, Bool, List, arith}
use Rattle.bus.proofs.Adds.{Recorded, recorded}
use Rattle.dma.proofs.Adds.{updated-adds}
use Rattle.state.specs.declared.Machine.{Machine}
use Rattle.machine.specs.Cycle.{settled_of, begun, cycled}
use Rattle.machine.specs.Event.{timed}
use Rattle.machine.specs.declared.event.Event.{Event}

pub cycle-recorded : (rom : List ℕ) (m : Machine) (l h : List ℕ) (event : Event) (line hit : Bool)
    → Recorded 11 4 (timed (settled_of m event) hit) l h (cycled rom m l h event line hit).after.world
unfolding cycled
cycle-recorded rom m l h event line hit =
    recorded (timed (settled_of m event) hit) l h (updated-adds rom (begun m l h event line hit) m.board.clock) (omega arith) (omega arith)
