-- Who makes the accesses of a cycle: `who_of` of the DMA unit before the cycle names the one that does, for every machine and cycle.
use Prim.Native.Nat.{ℕ}
use mathlib.Core.Bool.{Bool}
use mathlib.Core.List.{List}
use mathlib.Core.Logic.{inl, inr}
use mathlib.Core.Path.{◌≡◌, refl, subst}
use lib.Dec.{eqb, ltb}
use Rattle.std.specs.Prelude.{Option, None, Some}
use Rattle.common.proofs.TableLaws.{pick_elim}
use Rattle.bus.specs.{Access.no_log, Access.opened, World.World}
use Rattle.bus.specs.View.{channel_of, with_channel, mdmaen_of, with_mdmaen}
use Rattle.dma.specs.Cycle.{Held, start_pending, due_of, cycle_from, aligned_wait, act_by, acted, updated}
use Rattle.dma.specs.General.{after_byte, on_banks, step_from, dma_step}
use Rattle.dma.specs.Pass.{hdma_step}
use Rattle.hdma.specs.Engine.{DmaWorld, at}
use Rattle.hdma.specs.Engine.{DmaCore}
use Rattle.machine.specs.Cycle.{armed, begun, cycled}
use Rattle.machine.specs.declared.event.Event.{Event}
use Rattle.state.specs.declared.{Dma.Dma, DmaProgress.DmaProgress}
use Rattle.state.specs.declared.{DmaState.DmaState, Machine.Machine}
use Rattle.state.specs.declared.DmaState.TheVariants.{Idle, Startup, Dma as Transfer, Hdma as Pass}
use Rattle.touch.specs.Who.{who_from, who_by, who_of}
use Rattle.touch.specs.declared.who.Who.{Who}
use Rattle.touch.specs.declared.who.Who.TheVariants.{Cpu, Dma as General, Hdma}
use Rattle.transfer.specs.{Bits.lowest, Bits.down, Byte.transfer_byte}
use Rattle.followed.specs.Credit.{Done, unit_of, CreditedAt, Credited}

same : (w : World) → Done w w
same w = record { log = refl; ram = refl }

module _ (rom : List ℕ) (w : World) (d : Dma) where
  -- where nothing was done, that is so of everyone
  quiet : (u : ℕ) (who : Who) → CreditedAt rom w d u who w
  quiet u Cpu = same w
  quiet u (General ch) = inl (same w)
  quiet u (Hdma ch) = inl (same w)

  -- after a byte only DAS and MDMAEN change
  step_credited : (p : Option DmaProgress) → CreditedAt rom w d (unit_of p) (who_from p) (step_from rom p (at w d)).world
  unfolding step_from after_byte with_channel with_mdmaen
  step_credited None = same w
  step_credited (Some p) =
      let v = transfer_byte rom w p.channel p.unit in
      inr (pick_elim (λ (r : DmaCore). Done (on_banks v r).world v) (eqb (down 65536 (channel_of v.core p.channel).das) 0)
      (record { log = refl; ram = refl }) (record { log = refl; ram = refl }))

  pass_credited : CreditedAt rom w d (unit_of d.progress) (Hdma (lowest d.queue)) (hdma_step rom (at w d)).world
  unfolding hdma_step
  pass_credited =
      let ch = lowest d.queue in
      let P : DmaWorld → Type 0 = λ (r : DmaWorld). Credited rom w d (Hdma ch) r.world in
      pick_elim P (eqb d.queue 0) (inl (same w)) (pick_elim P d.init (inr (inl (same _))) (inr (inr (same _))))

  act_credited : (s : DmaState) → Credited rom w d (who_by s d.progress d.queue) (act_by rom s (at w d)).after.world
  unfolding act_by dma_step
  act_credited Idle = same w
  act_credited Startup = same w
  act_credited Transfer = step_credited d.progress
  act_credited Pass = pass_credited

module _ (rom : List ℕ) (w : World) (d : Dma) where
  -- a takeover and a cycle of waiting do nothing on the bus, nor does the start of a transfer
  pub updated_credited : (clock : ℕ) → Credited rom w d (who_of d) (updated rom (at w d) clock).after.world
  unfolding updated start_pending acted who_of act_by
  updated_credited clock =
      let who = who_of d in
      let P : Held → Type 0 = λ (r : Held). Credited rom w d who r.after.world in
      let Q : Dma → Type 0 = λ (e : Dma). P (cycle_from rom (at w e)) in
      let none = quiet rom w d (unit_of d.progress) who in
      let goes = pick_elim P (due_of d) none (pick_elim P (ltb 0 d.wait) none (act_credited rom w d d.state)) in
      pick_elim Q d.running goes (pick_elim Q (eqb (mdmaen_of w.core) 0) goes
      (pick_elim P (due_of _) none (pick_elim P (ltb 0 (aligned_wait clock)) none none)))

-- a pass that is made pending changes nobody's turn
armed-who : (d : Dma) (mask : ℕ) (frame line : Bool) → who_of (armed d mask frame line) ≡ who_of d
unfolding armed who_of
armed-who d mask frame line = pick_elim (λ (e : Dma). who_of e ≡ who_of d) (eqb mask 0) refl refl

module _ (rom : List ℕ) (m : Machine) (l h : List ℕ) (event : Event) (line hit : Bool) where
  -- a cycle begins with no access
  pub begun-log : (begun m l h event line hit).world.core.log ≡ no_log
  unfolding opened
  begun-log = refl

  pub cycled_credited : Credited rom (begun m l h event line hit).world (begun m l h event line hit).dma (who_of m.dma) (cycled rom m l h event line hit).after.world
  unfolding cycled
  cycled_credited =
      let b = begun m l h event line hit in
      subst (λ (who : Who). Credited rom b.world b.dma who (updated rom b m.board.clock).after.world) (armed-who m.dma _ _ _)
      (updated_credited rom b.world b.dma m.board.clock)
