-- General transfers (src/dma.rs, dma_step; Fullsnes, "DMA"). Choosing a channel costs 8, each byte 8, the closing step 1; waits are costs less one.
use Rattle.std.specs.Prelude.{ℕ, ◌+◌, ◌%◌, ◌^◌, false, List, ◌==◌, Option, None, Some}
use Rattle.common.specs.Pick.{pick}
use Rattle.bus.specs.View.{channel_of, with_channel, mdmaen_of, with_mdmaen}
use Rattle.bus.specs.World.{World}
use Rattle.bus.specs.declared.access.Core.{Core}
use Rattle.hdma.specs.Engine.{DmaCore, DmaWorld, at, with_state, with_wait, with_running, with_progress}
use Rattle.registers.specs.Groups.{with_dma_channel_das}
use Rattle.state.specs.Progress.{progress_at}
use Rattle.state.specs.declared.{Dma.Dma, DmaProgress.DmaProgress}
use Rattle.state.specs.declared.DmaState.TheVariants.{Idle}
use Rattle.transfer.specs.Bits.{lowest, clear_bit, down}
use Rattle.transfer.specs.Byte.{transfer_byte}

-- the lowest channel of MDMAEN; with none left the unit is idle
unfoldable pub chosen : Dma → ℕ → Dma
chosen d mask = pick (mask == 0) (with_running (with_state d Idle) false) (with_wait (with_progress d (progress_at (lowest mask) 0)) 7)

-- DAS, as the byte may have rewritten it, goes down with wrap, so that 0 moves 65,536 bytes; at 0 the channel's MDMAEN bit is cleared
unfoldable pub after_byte : Core → Dma → ℕ → ℕ → DmaCore
after_byte k d ch u =
    let c = channel_of k ch in
    let das = down 65536 c.das in
    let j = with_channel k ch (with_dma_channel_das c das) in
    pick (das == 0) (record { core = with_mdmaen j (clear_bit (mdmaen_of k) ch); dma = with_wait (with_progress d None) 7 })
    (record { core = j; dma = with_wait (with_progress d (progress_at ch ((u + 1) % 2 ^ 32))) 7 })

-- the banks of a world beside registers and DMA unit
abbrev pub on_banks : World → DmaCore → DmaWorld
on_banks w m = record { world = record { core = m.core; ram = w.ram }; dma = m.dma }

-- with no transfer in progress a channel is picked; else one byte moves
unfoldable pub step_from : List ℕ → Option DmaProgress → DmaWorld → DmaWorld
step_from rom None m = at m.world (chosen m.dma (mdmaen_of m.world.core))
step_from rom (Some p) m = let w = transfer_byte rom m.world p.channel p.unit in on_banks w (after_byte w.core m.dma p.channel p.unit)

-- one action of a general transfer
unfoldable pub dma_step : List ℕ → DmaWorld → DmaWorld
dma_step rom m = step_from rom m.dma.progress m
