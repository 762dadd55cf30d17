-- What a listing says of a cycle is all that happened to WMADD and to work RAM: its accesses, replayed, give both, for every machine and cycle.
use Prim.Native.Nat.{ℕ}
use mathlib.Core.Bool.{Bool}
use mathlib.Core.List.{List}
use mathlib.Core.Path.{◌≡◌, refl}
use native.Mathlib.Omega.{arith}
use lib.Dec.{eqb, ltb}
use lib.ListN.{length}
use Rattle.std.specs.Prelude.{Option, None, Some}
use Rattle.common.proofs.TableLaws.{pick_elim}
use Rattle.bus.proofs.Adds.{logs}
use Rattle.bus.specs.{Access.opened, View.channel_of, View.mdmaen_of}
use Rattle.dma.specs.Cycle.{Held, start_pending, due_of, act_by, acted, updated}
use Rattle.dma.specs.General.{after_byte, on_banks, step_from, dma_step}
use Rattle.dma.specs.Pass.{unqueued, hdma_step}
use Rattle.hdma.specs.Engine.{DmaWorld, at}
use Rattle.hdma.specs.Engine.{DmaCore}
use Rattle.machine.proofs.Before.{before-wmadd}
use Rattle.machine.specs.Cycle.{begun, cycled}
use Rattle.machine.specs.declared.event.Event.{Event}
use Rattle.state.specs.declared.{DmaProgress.DmaProgress, DmaState.DmaState}
use Rattle.state.specs.declared.Machine.{Machine}
use Rattle.state.specs.declared.DmaState.TheVariants.{Idle, Startup, Dma as General, Hdma}
use Rattle.transfer.specs.{Bits.lowest, Bits.down, Byte.transfer_byte}
use Rattle.wram.specs.Banks.{banks}
use Rattle.followed.specs.Standing.{wm_at, ram_at, Stands}
use Rattle.followed.proofs.Accesses.{Follows, follows-none, follows_trans, follows-more, channel-follows, mdmaen-follows}
use Rattle.followed.proofs.{Moves.transfer-follows, Turns.init-follows, Turns.line-follows}

module _ (rom : List ℕ) where
  step_follows : (p : Option DmaProgress) (m : DmaWorld) → Follows 2 m.world (step_from rom p m).world
  unfolding step_from after_byte
  step_follows None m = follows-more 2 (follows-none m.world) (omega arith)
  step_follows (Some p) m =
      let w = transfer_byte rom m.world p.channel p.unit in
      let x = follows_trans (transfer-follows rom m.world p.channel p.unit) (channel-follows w p.channel _) in
      pick_elim (λ (r : DmaCore). Follows 2 m.world (on_banks w r).world) (eqb (down 65536 (channel_of w.core p.channel).das) 0)
      (follows_trans x (mdmaen-follows _ _)) x

  pub dma-follows : (m : DmaWorld) → Follows 2 m.world (dma_step rom m).world
  unfolding dma_step
  dma-follows m = step_follows m.dma.progress m

  pub hdma_follows : (m : DmaWorld) → Follows 11 m.world (hdma_step rom m).world
  unfolding hdma_step
  hdma_follows m =
      let P : DmaWorld → Type 0 = λ (r : DmaWorld). Follows 11 m.world r.world in
      let ch = lowest m.dma.queue in
      pick_elim P (eqb m.dma.queue 0) (follows-more 11 (follows-none m.world) (omega arith))
      (pick_elim P m.dma.init (follows-more 11 (init-follows rom (unqueued m) ch) (omega arith)) (line-follows rom (unqueued m) ch))

module _ (rom : List ℕ) where
  act-follows : (s : DmaState) (m : DmaWorld) → Follows 11 m.world (act_by rom s m).after.world
  unfolding act_by
  act-follows Idle m = follows-more 11 (follows-none m.world) (omega arith)
  act-follows Startup m = follows-more 11 (follows-none m.world) (omega arith)
  act-follows General m = follows-more 11 (dma-follows rom m) (omega arith)
  act-follows Hdma m = hdma_follows rom m

  pub updated-follows : (m : DmaWorld) (clock : ℕ) → Follows 11 m.world (updated rom m clock).after.world
  unfolding updated acted
  updated-follows m clock =
      let P : Held → Type 0 = λ (r : Held). Follows 11 m.world r.after.world in
      let d = start_pending m.dma (mdmaen_of m.world.core) clock in
      let none = follows-more 11 (follows-none m.world) (omega arith) in
      pick_elim P (due_of d) none (pick_elim P (ltb 0 d.wait) none (act-follows d.state (at m.world d)))

module _ (rom : List ℕ) (m : Machine) (l h : List ℕ) (event : Event) (line hit : Bool) where
  begun-stands : Stands m.io.wmadd (banks l h) (begun m l h event line hit).world
  unfolding opened wm_at ram_at
  begun-stands = record { wmadd = before-wmadd m event hit; ram = refl; told = λ i k. absurd (omega arith) }

  begun-empty : (logs (begun m l h event line hit).world ≡ 0) × (length (begun m l h event line hit).world.core.log.items ≡ 11)
  unfolding opened
  begun-empty = (refl, refl)

  -- replayed from before the cycle, the accesses of its log give WMADD and work RAM after it
  pub cycled-stands : Stands m.io.wmadd (banks l h) (cycled rom m l h event line hit).after.world
  unfolding cycled
  cycled-stands =
      (updated-follows rom (begun m l h event line hit) m.board.clock).keeps m.io.wmadd (banks l h) (omega (arith, begun-empty.0))
      begun-empty.1 begun-stands
