-- The DMA unit (src/dma.rs, struct Dma) beside the world of the bus. Each field has its setter.
use Rattle.std.specs.Prelude.{ℕ, ◌%◌, Bool, List, get_or, set, Option}
use Rattle.bus.specs.World.{World}
use Rattle.state.specs.Hdma.{no_hdma}
use Rattle.state.specs.declared.{Dma.Dma, DmaProgress.DmaProgress, DmaState.DmaState, HdmaChannelState.HdmaChannelState}
use Rattle.bus.specs.declared.access.Core.{Core}

abbrev pub with_state : Dma → DmaState → Dma
with_state d v = record { state = v; wait = d.wait; running = d.running; progress = d.progress; pending = d.pending; init = d.init; queue = d.queue; channels = d.channels }

abbrev pub with_wait : Dma → ℕ → Dma
with_wait d v = record { state = d.state; wait = v; running = d.running; progress = d.progress; pending = d.pending; init = d.init; queue = d.queue; channels = d.channels }

abbrev pub with_running : Dma → Bool → Dma
with_running d v = record { state = d.state; wait = d.wait; running = v; progress = d.progress; pending = d.pending; init = d.init; queue = d.queue; channels = d.channels }

abbrev pub with_progress : Dma → Option DmaProgress → Dma
with_progress d v = record { state = d.state; wait = d.wait; running = d.running; progress = v; pending = d.pending; init = d.init; queue = d.queue; channels = d.channels }

abbrev pub with_pending : Dma → Bool → Dma
with_pending d v = record { state = d.state; wait = d.wait; running = d.running; progress = d.progress; pending = v; init = d.init; queue = d.queue; channels = d.channels }

abbrev pub with_init : Dma → Bool → Dma
with_init d v = record { state = d.state; wait = d.wait; running = d.running; progress = d.progress; pending = d.pending; init = v; queue = d.queue; channels = d.channels }

abbrev pub with_queue : Dma → ℕ → Dma
with_queue d v = record { state = d.state; wait = d.wait; running = d.running; progress = d.progress; pending = d.pending; init = d.init; queue = v; channels = d.channels }

abbrev pub with_channels : Dma → List HdmaChannelState → Dma
with_channels d v = record { state = d.state; wait = d.wait; running = d.running; progress = d.progress; pending = d.pending; init = d.init; queue = d.queue; channels = v }

-- the DMA unit with registers, log and bytes overwritten
pub record DmaCore : Type 0 where
  pub core : Core
  pub dma : Dma

-- and with both banks
pub record DmaWorld : Type 0 where
  pub world : World
  pub dma : Dma

-- a world and a DMA unit put together
abbrev pub at : World → Dma → DmaWorld
at w d = record { world = w; dma = d }

-- a channel's HDMA state
abbrev pub hdma_at : Dma → ℕ → HdmaChannelState
hdma_at d ch = get_or d.channels (ch % 8) no_hdma

-- a channel's HDMA state and the wait, as one shut name
unfoldable pub set_hdma : Dma → ℕ → HdmaChannelState → ℕ → Dma
set_hdma d ch h wait = with_wait (with_channels d (set d.channels (ch % 8) h)) wait
