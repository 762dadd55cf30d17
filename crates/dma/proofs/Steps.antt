-- The cycles of a general transfer, one by one: it starts, waits, opens, chooses a channel, moves a byte, closes.
use Rattle.std.proofs.Common.{◌≡◌, ℕ, suc, ◌+◌, ◌-◌, Bool, true, false, eqb, ltb, List, refl, ap, ◌∙◌, arith, lt-ltb, Option, None}
use Rattle.common.specs.Pick.{pick}
use Rattle.bus.specs.View.{mdmaen_of}
use Rattle.bus.specs.World.{World}
use Rattle.hdma.specs.Engine.{at}
use Rattle.state.specs.Progress.{progress_at}
use Rattle.state.specs.declared.{Dma.Dma, DmaProgress.DmaProgress, DmaState.DmaState}
use Rattle.state.specs.declared.DmaState.TheVariants.{Idle, Startup, Dma as General}
use Rattle.transfer.specs.{Bits.lowest, Byte.transfer_byte}
use Rattle.dma.proofs.{OneByte.moves, Quiet.waits, Quiet.idles}
use Rattle.dma.specs.Cycle.{alignment, aligned_wait, start_pending, due_of, act_by, acted, holding, cycle_from, updated}
use Rattle.dma.specs.General.{chosen, after_byte, on_banks, step_from, dma_step}

-- at work on general transfers, with no pass pending
abbrev pub busy : Dma → DmaState → ℕ → Option DmaProgress → Dma
busy d state wait progress =
    record { state = state; wait = wait; running = true; progress = progress; pending = false; init = d.init; queue = d.queue; channels = d.channels }

-- idle, with none asked for
abbrev pub idle : Dma → Dma
idle d =
    record { state = Idle; wait = 0; running = false; progress = None; pending = false; init = d.init; queue = d.queue; channels = d.channels }

module _ (rom : List ℕ) (w : World) (d : Dma) (clock : ℕ) where
  -- alignment + 8 less this cycle
  pub starts : eqb (mdmaen_of w.core) 0 ≡ false → updated rom (at w (idle d)) clock ≡ holding (at w (busy d Startup (alignment clock + 6) None))
  unfolding updated start_pending due_of
  starts q =
      let more : ltb 0 (aligned_wait clock) ≡ true = lt-ltb 0 (aligned_wait clock) (omega arith) in
      let less : aligned_wait clock - 1 ≡ alignment clock + 6 = omega arith in
      let u = busy d Startup (aligned_wait clock) None in
      ap (λ (b : Bool). cycle_from rom (at w (pick b (idle d) u))) q
      ∙ (λ i. pick (more i) (holding (at w (busy d Startup (less i) None))) (acted rom (at w u)))

  pub opens : (p : Option DmaProgress) → updated rom (at w (busy d Startup 0 p)) clock ≡ holding (at w (busy d General 0 p))
  unfolding updated start_pending due_of acted act_by
  opens p = refl

  pub waits-on : (s : DmaState) (n : ℕ) (p : Option DmaProgress) → updated rom (at w (busy d s (suc n) p)) clock ≡ holding (at w (busy d s n p))
  unfolding updated start_pending
  waits-on s n p =
      let less : suc n - 1 ≡ n = omega arith in
      waits rom w (busy d s (suc n) p) (omega arith) ∙ ap (λ (k : ℕ). holding (at w (busy d s k p))) less

  pub chooses : eqb (mdmaen_of w.core) 0 ≡ false
      → updated rom (at w (busy d General 0 None)) clock ≡ holding (at w (busy d General 7 (progress_at (lowest (mdmaen_of w.core)) 0)))
  unfolding updated start_pending due_of acted act_by dma_step step_from chosen
  chooses q = ap (λ (b : Bool). holding (at w (pick b (idle d) (busy d General 7 (progress_at (lowest (mdmaen_of w.core)) 0))))) q

  pub closes : eqb (mdmaen_of w.core) 0 ≡ true → updated rom (at w (busy d General 0 None)) clock ≡ holding (at w (idle d))
  unfolding updated start_pending due_of acted act_by dma_step step_from chosen
  closes q = ap (λ (b : Bool). holding (at w (pick b (idle d) (busy d General 7 (progress_at (lowest (mdmaen_of w.core)) 0))))) q

  pub byte-moves : (ch u : ℕ) → updated rom (at w (busy d General 0 (progress_at ch u))) clock
      ≡ holding (let v = transfer_byte rom w ch u in on_banks v (after_byte v.core (busy d General 0 (progress_at ch u)) ch u))
  unfolding updated start_pending
  byte-moves ch u = moves rom w (busy d General 0 (progress_at ch u)) ch u refl refl refl refl

  pub stays-idle : eqb (mdmaen_of w.core) 0 ≡ true → updated rom (at w (idle d)) clock ≡ record { after = at w (idle d); held = false }
  unfolding updated start_pending
  stays-idle q = ap (λ (b : Bool). cycle_from rom (at w (pick b (idle d) (busy d Startup (aligned_wait clock) None)))) q ∙ idles rom w (idle d) refl refl refl
