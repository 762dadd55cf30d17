-- One master cycle of the DMA unit (src/dma.rs, update_dma_cycles).
use Rattle.std.specs.Prelude.{ℕ, ◌+◌, ◌-◌, ◌%◌, Bool, true, false, ◌&&◌, List, ◌==◌, nat_lt}
use Rattle.common.specs.Pick.{pick}
use Rattle.bus.specs.View.{mdmaen_of, hdmaen_of}
use Rattle.dma.specs.{General.dma_step, Pass.hdma_step}
use Rattle.hdma.specs.Engine.{DmaWorld, at, with_state, with_wait, with_running, with_pending, with_queue}
use Rattle.state.specs.declared.{Dma.Dma, DmaState.DmaState}
use Rattle.state.specs.declared.DmaState.TheVariants.{Idle, Startup, Dma as General, Hdma}

-- alignment is 8 - clock mod 8; startup holds alignment + 8, of which this cycle is the first
abbrev pub alignment : ℕ → ℕ
alignment clock = 8 - clock % 8

-- what is left of alignment + 8 after this cycle
abbrev pub aligned_wait : ℕ → ℕ
aligned_wait clock = alignment clock + 7

-- MDMAEN not 0 with nothing running starts a transfer in any state, also in the middle of a pass: the rest of its queue waits for nobody, and init stays set
unfoldable pub start_pending : Dma → ℕ → ℕ → Dma
start_pending d mask clock =
    pick d.running d (pick (mask == 0) d (with_wait (with_running (with_state d Startup) true) (aligned_wait clock)))

-- a pending pass takes over where nothing is waited for, from any state: from Startup it skips the cycle to Dma, from Hdma it restarts the pass
unfoldable pub due_of : Dma → Bool
due_of d = d.pending && d.wait == 0

-- the pass begins: 18 cycles with this one, over the channels that HDMAEN has now; with none the pass is 18 + 1 cycles and still clears init
abbrev pub takeover : Dma → ℕ → Dma
takeover d queue = with_wait (with_queue (with_pending (with_state d Hdma) false) queue) 17

-- what a cycle leaves, and whether it held the processor
pub record Held : Type 0 where
  pub after : DmaWorld
  pub held : Bool

-- a cycle that held it
abbrev pub holding : DmaWorld → Held
holding m = record { after = m; held = true }

-- the action of a state
unfoldable pub act_by : List ℕ → DmaState → DmaWorld → Held
act_by rom Idle m = record { after = m; held = false }
act_by rom Startup m = holding (at m.world (with_state m.dma General))
act_by rom General m = holding (dma_step rom m)
act_by rom Hdma m = holding (hdma_step rom m)

-- the action of the unit's state
unfoldable pub acted : List ℕ → DmaWorld → Held
acted rom m = act_by rom m.dma.state m

-- a takeover, a cycle of waiting, or an action
abbrev pub cycle_from : List ℕ → DmaWorld → Held
cycle_from rom m =
    pick (due_of m.dma) (holding (at m.world (takeover m.dma (hdmaen_of m.world.core))))
    (pick (nat_lt 0 m.dma.wait) (holding (at m.world (with_wait m.dma (m.dma.wait - 1)))) (acted rom m))

-- a cycle: a general transfer may start first
unfoldable pub updated : List ℕ → DmaWorld → ℕ → Held
updated rom m clock = cycle_from rom (at m.world (start_pending m.dma (mdmaen_of m.world.core) clock))
