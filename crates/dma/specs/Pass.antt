-- An H-blank pass (src/dma.rs, hdma_step): a finished channel and the empty queue cost 1 each.
use Rattle.std.specs.Prelude.{ℕ, false, List, ◌==◌}
use Rattle.common.specs.Pick.{pick}
use Rattle.hdma.specs.Engine.{DmaWorld, at, with_state, with_init, with_queue}
use Rattle.hdma.specs.{Entry.init_channel, Line.line_channel}
use Rattle.state.specs.declared.{Dma.Dma, DmaState.TheVariants.Idle, DmaState.TheVariants.Dma as General}
use Rattle.transfer.specs.Bits.{lowest, clear_bit}

-- the queue is empty: the pass is over, and a general transfer that was stopped goes on
unfoldable pub drained_of : Dma → Dma
drained_of d = pick d.running (with_init (with_state d General) false) (with_init (with_state d Idle) false)

-- the lowest channel leaves the queue
abbrev pub unqueued : DmaWorld → DmaWorld
unqueued m = at m.world (with_queue m.dma (clear_bit m.dma.queue (lowest m.dma.queue)))

-- one action: the next channel of the queue, by the first entry of a frame or by a line
unfoldable pub hdma_step : List ℕ → DmaWorld → DmaWorld
hdma_step rom m =
    pick (m.dma.queue == 0) (at m.world (drained_of m.dma))
    (pick m.dma.init (init_channel rom (unqueued m) (lowest m.dma.queue)) (line_channel rom (unqueued m) (lowest m.dma.queue)))
