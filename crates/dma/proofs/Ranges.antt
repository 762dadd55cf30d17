-- One master cycle of the DMA unit keeps its ranges: wait at most 55, channel under 8.
use Rattle.std.proofs.Common.{◌≡◌, ℕ, ◌<◌, Bool, true, false, eqb, ltb, List, arith, Option, None, Some}
use borrow.Author.Tests.{eqb-false}
use Rattle.common.specs.Pick.{pick}
use Rattle.common.proofs.TableLaws.{pick_elim, pick_case}
use Rattle.bus.specs.View.{channel_of, mdmaen_of}
use Rattle.hdma.proofs.Ranges.{init-ok, line_ok}
use Rattle.hdma.specs.Engine.{DmaWorld, at, with_state, with_init}
use Rattle.hdma.specs.Engine.{DmaCore}
use Rattle.state.proofs.Ranges.{ProgressOk, DmaOk}
use Rattle.state.specs.declared.{Dma.Dma, DmaProgress.DmaProgress}
use Rattle.state.specs.declared.DmaState.{DmaState}
use Rattle.state.specs.declared.DmaState.TheVariants.{Idle, Startup, Dma as General, Hdma}
use Rattle.transfer.proofs.BitLaws.{lowest_lt}
use Rattle.transfer.specs.{Bits.lowest, Bits.down, Byte.transfer_byte}
use Rattle.dma.specs.Cycle.{Held, start_pending, due_of, act_by, acted, updated}
use Rattle.dma.specs.General.{chosen, after_byte, step_from, dma_step}
use Rattle.dma.specs.Pass.{drained_of, unqueued, hdma_step}

module _ {d : Dma} (f : DmaOk d) where
  -- startup waits at most 8 + 7
  start-ok : (mask clock : ℕ) → DmaOk (start_pending d mask clock)
  unfolding start_pending
  start-ok mask clock =
      pick_elim DmaOk d.running f (pick_elim DmaOk (eqb mask 0) f (record { wait = omega arith; progress = f.progress }))

  -- a mask of eight bits has its lowest set bit below 8, and of none nothing is chosen
  chosen-ok : (mask : ℕ) → mask < 256 → DmaOk (chosen d mask)
  unfolding chosen
  chosen-ok mask l =
      pick_case DmaOk (eqb mask 0) (λ (e : eqb mask 0 ≡ true). record { wait = f.wait; progress = f.progress })
      (λ (e : eqb mask 0 ≡ false). record { wait = omega arith; progress = lowest_lt mask (omega (arith, eqb-false mask 0 e)) l })

  drained-ok : DmaOk (drained_of d)
  unfolding drained_of
  drained-ok =
      let rest : (r : Bool) → DmaOk (with_init (with_state d (pick r General Idle)) false) = λ r. record { wait = f.wait; progress = f.progress } in
      pick_elim DmaOk d.running (rest true) (rest false)

module _ (rom : List ℕ) where
  step_ok : (p : Option DmaProgress) (m : DmaWorld) → DmaOk m.dma → ProgressOk p → mdmaen_of m.world.core < 256 → DmaOk (step_from rom p m).dma
  unfolding step_from after_byte
  step_ok None m f q l = chosen-ok f (mdmaen_of m.world.core) l
  step_ok (Some p) m f q l =
      let w = transfer_byte rom m.world p.channel p.unit in
      pick_elim (λ (r : DmaCore). DmaOk r.dma) (eqb (down 65536 (channel_of w.core p.channel).das) 0)
      (record { wait = omega arith; progress = tt }) (record { wait = omega arith; progress = q })

  pub dma-ok : (m : DmaWorld) → DmaOk m.dma → mdmaen_of m.world.core < 256 → DmaOk (dma_step rom m).dma
  unfolding dma_step
  dma-ok m f l = step_ok m.dma.progress m f f.progress l

  pub hdma_ok : (m : DmaWorld) → DmaOk m.dma → DmaOk (hdma_step rom m).dma
  unfolding hdma_step
  hdma_ok m f =
      let P : DmaWorld → Type 0 = λ (r : DmaWorld). DmaOk r.dma in
      let ch = lowest m.dma.queue in
      let g : DmaOk (unqueued m).dma = record { wait = f.wait; progress = f.progress } in
      pick_elim P (eqb m.dma.queue 0) (drained-ok f)
      (pick_elim P m.dma.init (init-ok rom (unqueued m) ch g) (line_ok rom (unqueued m) ch g))

module _ (rom : List ℕ) where
  act-ok : (s : DmaState) (m : DmaWorld) → DmaOk m.dma → mdmaen_of m.world.core < 256 → DmaOk (act_by rom s m).after.dma
  unfolding act_by
  act-ok Idle m f l = f
  act-ok Startup m f l = record { wait = f.wait; progress = f.progress }
  act-ok General m f l = dma-ok rom m f l
  act-ok Hdma m f l = hdma_ok rom m f

  pub updated-ok : (m : DmaWorld) (clock : ℕ) → DmaOk m.dma → mdmaen_of m.world.core < 256 → DmaOk (updated rom m clock).after.dma
  unfolding updated acted
  updated-ok m clock f l =
      let P : Held → Type 0 = λ (r : Held). DmaOk r.after.dma in
      let d = start_pending m.dma (mdmaen_of m.world.core) clock in
      let g = start-ok f (mdmaen_of m.world.core) clock in
      pick_elim P (due_of d) (record { wait = omega arith; progress = g.progress })
      (pick_elim P (ltb 0 d.wait) (record { wait = omega (arith, g.wait); progress = g.progress }) (act-ok d.state (at m.world d) g l))
