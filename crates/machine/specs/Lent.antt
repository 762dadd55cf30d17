-- A cycle as the code makes it: of a machine and of banks that are lent.
use Rattle.std.specs.Prelude.{ℕ, Bool, List}
use Rattle.machine.specs.Cycle.{Turned, cycled}
use Rattle.machine.specs.declared.{cycle.Turn.Turn, event.Event.Event}
use Rattle.state.specs.declared.Machine.{Machine}
use Rattle.wram.specs.declared.Ram.{Ram}

-- the cycle over what stands in the banks
abbrev pub cycled_on : List ℕ → Machine → Ram → Event → Bool → Bool → Turned
cycled_on rom m r event line hit = cycled rom m r.low.now r.high.now event line hit

-- what it says
abbrev pub told : Turned → Turn
told t = let k = t.after.world.core in record { held = t.held; edge = t.edge; log = k.log; olds = k.olds }
