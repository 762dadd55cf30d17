-- One master cycle of the DMA unit keeps it, the registers, the bytes overwritten and both banks in their widths.
use Rattle.std.proofs.Common.{◌≡◌, ℕ, ◌-◌, ◌*◌, ◌%◌, ◌^◌, true, false, eqb, ltb, List, arith, Option, None, Some}
use borrow.Author.Tests.{eqb-false}
use lib.Bits.{and_le_l}
use Rattle.common.proofs.TableLaws.{pick_elim, pick_case}
use Rattle.bus.proofs.FitLaws.{channel-fits, with_channel-fits, mdmaen-fits, hdmaen-fits, with_mdmaen-fits, FitWorld}
use Rattle.bus.specs.View.{channel_of, with_channel, mdmaen_of, with_core}
use Rattle.hdma.proofs.FitLaws.{init-fits, line-fits, FitDmaWorld}
use Rattle.hdma.specs.Engine.{DmaWorld}
use Rattle.hdma.specs.Engine.{DmaCore}
use Rattle.common.specs.Width.{Byte, Bytes}
use Rattle.registers.specs.Groups.{with_dma_channel_das}
use Rattle.state.specs.Fit.{FitProgress, FitDma}
use Rattle.state.specs.declared.{Dma.Dma, DmaProgress.DmaProgress}
use Rattle.state.specs.declared.DmaState.{DmaState}
use Rattle.state.specs.declared.DmaState.TheVariants.{Idle, Startup, Dma as General, Hdma}
use Rattle.transfer.proofs.{BitLaws.lowest_lt, FitLaws.transfer-fits}
use Rattle.transfer.specs.Bits.{lowest, clear_bit, down}
use Rattle.transfer.specs.Byte.{transfer_byte}
use Rattle.dma.specs.Cycle.{Held, start_pending, due_of, act_by, acted, updated}
use Rattle.dma.specs.General.{chosen, after_byte, on_banks, step_from, dma_step}
use Rattle.dma.specs.Pass.{drained_of, unqueued, hdma_step}

clear-fits : (m ch : ℕ) → Byte m → Byte (clear_bit m ch)
clear-fits m ch h = omega (arith, and_le_l m (255 - 1 * 2 ^ (ch % 8) % 2 ^ 8))

module _ {d : Dma} (f : FitDma d) where
  start_fits : (mask clock : ℕ) → FitDma (start_pending d mask clock)
  unfolding start_pending
  start_fits mask clock = pick_elim FitDma d.running f (pick_elim FitDma (eqb mask 0) f (search arith))

  chosen-fits : (mask : ℕ) → Byte mask → FitDma (chosen d mask)
  unfolding chosen
  chosen-fits mask h =
      pick_case FitDma (eqb mask 0) (λ (e : eqb mask 0 ≡ true). search)
      (λ (e : eqb mask 0 ≡ false). let l = lowest_lt mask (omega (arith, eqb-false mask 0 e)) h in search arith)

  drained-fits : FitDma (drained_of d)
  unfolding drained_of
  drained-fits = pick_elim FitDma d.running (search) (search)

module _ (rom : List ℕ) (g : Bytes rom) where
  step_fits : (p : Option DmaProgress) {m : DmaWorld} → FitDmaWorld m → FitProgress p → FitDmaWorld (step_from rom p m)
  unfolding step_from after_byte
  step_fits None {m} f q = record { world = f.world; dma = chosen-fits f.dma (mdmaen_of m.world.core) (mdmaen-fits f.world) }
  step_fits (Some p) {m} f q =
      let ch = p.channel in
      let w = transfer_byte rom m.world ch p.unit in
      let c = channel_of w.core ch in
      let x = transfer-fits rom g ch p.unit f.world in
      let cf = channel-fits x ch in
      let y : FitWorld (with_core w (with_channel w.core ch (with_dma_channel_das c (down 65536 c.das)))) = with_channel-fits x ch (omega (arith, cf)) in
      let e = f.dma in
      pick_elim (λ (r : DmaCore). FitDmaWorld (on_banks w r)) (eqb (down 65536 c.das) 0)
      (record { world = with_mdmaen-fits y (clear-fits (mdmaen_of w.core) ch (mdmaen-fits x)); dma = search arith })
      (record { world = y; dma = search arith })

  pub dma-fits : {m : DmaWorld} → FitDmaWorld m → FitDmaWorld (dma_step rom m)
  unfolding dma_step
  dma-fits {m} f = step_fits m.dma.progress f f.dma.progress

  pub hdma_fits : {m : DmaWorld} → FitDmaWorld m → FitDmaWorld (hdma_step rom m)
  unfolding hdma_step
  hdma_fits {m} f =
      let ch = lowest m.dma.queue in
      let e = f.dma in
      let rest = clear-fits m.dma.queue ch e.queue in
      let u : FitDmaWorld (unqueued m) = record { world = f.world; dma = search } in
      pick_elim FitDmaWorld (eqb m.dma.queue 0) (record { world = f.world; dma = drained-fits f.dma })
      (pick_elim FitDmaWorld m.dma.init (init-fits rom g ch u) (line-fits rom g ch u))

module _ (rom : List ℕ) (g : Bytes rom) where
  act-fits : (s : DmaState) {m : DmaWorld} → FitDmaWorld m → FitDmaWorld (act_by rom s m).after
  unfolding act_by
  act-fits Idle f = f
  act-fits Startup f = let e = f.dma in record { world = f.world; dma = search }
  act-fits General f = dma-fits rom g f
  act-fits Hdma f = hdma_fits rom g f

  pub updated-fits : {m : DmaWorld} (clock : ℕ) → FitDmaWorld m → FitDmaWorld (updated rom m clock).after
  unfolding updated acted
  updated-fits {m} clock f =
      let P : Held → Type 0 = λ (r : Held). FitDmaWorld r.after in
      let d = start_pending m.dma (mdmaen_of m.world.core) clock in
      let e = start_fits f.dma (mdmaen_of m.world.core) clock in
      let queue = hdmaen-fits f.world in
      pick_elim P (due_of d) (record { world = f.world; dma = search arith })
      (pick_elim P (ltb 0 d.wait) (record { world = f.world; dma = search arith }) (act-fits d.state (record { world = f.world; dma = e })))
