-- What one master cycle of the DMA unit adds: at most 11 accesses and 4 old bytes.
use Rattle.std.proofs.Common.{ℕ, eqb, ltb, List, arith, Option, None, Some}
use Rattle.common.proofs.TableLaws.{pick_elim}
use Rattle.bus.proofs.Adds.{Adds, adds_none, adds_trans, adds-more, channel-adds, mdmaen-adds}
use Rattle.bus.specs.View.{channel_of, mdmaen_of}
use Rattle.hdma.proofs.Adds.{init-adds, line-adds}
use Rattle.hdma.specs.Engine.{DmaWorld, at}
use Rattle.hdma.specs.Engine.{DmaCore}
use Rattle.state.specs.declared.{DmaProgress.DmaProgress, DmaState.DmaState}
use Rattle.state.specs.declared.DmaState.TheVariants.{Idle, Startup, Dma as General, Hdma}
use Rattle.transfer.proofs.Adds.{transfer-adds}
use Rattle.transfer.specs.{Bits.lowest, Bits.down, Byte.transfer_byte}
use Rattle.dma.specs.Cycle.{Held, start_pending, due_of, act_by, acted, updated}
use Rattle.dma.specs.General.{after_byte, on_banks, step_from, dma_step}
use Rattle.dma.specs.Pass.{unqueued, hdma_step}

module _ (rom : List ℕ) where
  step-adds : (p : Option DmaProgress) (m : DmaWorld) → Adds 2 1 m.world (step_from rom p m).world
  unfolding step_from after_byte
  step-adds None m = adds-more 2 1 (adds_none m.world) (omega arith) (omega arith)
  step-adds (Some p) m =
      let ch = p.channel in
      let w = transfer_byte rom m.world ch p.unit in
      let x = adds_trans (transfer-adds rom m.world ch p.unit) (channel-adds w ch _) in
      pick_elim (λ (r : DmaCore). Adds 2 1 m.world (on_banks w r).world) (eqb (down 65536 (channel_of w.core ch).das) 0)
      (adds_trans x (mdmaen-adds _ _)) x

  pub dma-adds : (m : DmaWorld) → Adds 2 1 m.world (dma_step rom m).world
  unfolding dma_step
  dma-adds m = step-adds m.dma.progress m

  pub hdma_adds : (m : DmaWorld) → Adds 11 4 m.world (hdma_step rom m).world
  unfolding hdma_step
  hdma_adds m =
      let P : DmaWorld → Type 0 = λ (r : DmaWorld). Adds 11 4 m.world r.world in
      let ch = lowest m.dma.queue in
      pick_elim P (eqb m.dma.queue 0) (adds-more 11 4 (adds_none m.world) (omega arith) (omega arith))
      (pick_elim P m.dma.init (adds-more 11 4 (init-adds rom (unqueued m) ch) (omega arith) (omega arith)) (line-adds rom (unqueued m) ch))

module _ (rom : List ℕ) where
  act-adds : (s : DmaState) (m : DmaWorld) → Adds 11 4 m.world (act_by rom s m).after.world
  unfolding act_by
  act-adds Idle m = adds-more 11 4 (adds_none m.world) (omega arith) (omega arith)
  act-adds Startup m = adds-more 11 4 (adds_none m.world) (omega arith) (omega arith)
  act-adds General m = adds-more 11 4 (dma-adds rom m) (omega arith) (omega arith)
  act-adds Hdma m = hdma_adds rom m

  pub updated-adds : (m : DmaWorld) (clock : ℕ) → Adds 11 4 m.world (updated rom m clock).after.world
  unfolding updated acted
  updated-adds m clock =
      let P : Held → Type 0 = λ (r : Held). Adds 11 4 m.world r.after.world in
      let d = start_pending m.dma (mdmaen_of m.world.core) clock in
      let none = adds-more 11 4 (adds_none m.world) (omega arith) (omega arith) in
      pick_elim P (due_of d) none (pick_elim P (ltb 0 d.wait) none (act-adds d.state (at m.world d)))
