-- A cycle that moves one byte of a general transfer.
use Rattle.std.proofs.Common.{◌≡◌, ℕ, ◌+◌, ◌%◌, ◌^◌, Bool, false, eqb, List, length, refl, ap, ◌∙◌, None}
use Rattle.common.specs.Pick.{pick}
use Rattle.bus.proofs.Channels.{channel-put, channel_twice}
use Rattle.bus.specs.View.{channel_of, with_channel, mdmaen_of, with_mdmaen}
use Rattle.bus.specs.World.{World}
use Rattle.bus.specs.declared.access.Core.{Core}
use Rattle.hdma.specs.Engine.{at, with_wait, with_progress}
use Rattle.hdma.specs.Engine.{DmaCore}
use Rattle.registers.specs.Groups.{with_dma_channel_a1t, with_dma_channel_das}
use Rattle.registers.specs.declared.channel.DmaChannel.{DmaChannel}
use Rattle.state.specs.Progress.{progress_at}
use Rattle.state.specs.declared.Dma.{Dma}
use Rattle.state.specs.declared.DmaState.TheVariants as state
use Rattle.transfer.specs.Bits.{down, clear_bit}
use Rattle.transfer.specs.Byte.{next_a1t, step_a1t, transfer_byte}
use Rattle.dma.specs.Cycle.{due_of, act_by, acted, holding, cycle_from}
use Rattle.dma.specs.General.{after_byte, on_banks, step_from, dma_step}

module _ (k : Core) (ch : ℕ) (eight : length k.io.channels ≡ 8) where
  abbrev c : DmaChannel
  c = channel_of k ch

  -- what a byte leaves of a channel, that it found as x, and of the unit: DAS goes down, and at 0 the channel is done
  abbrev pub counted : Dma → ℕ → DmaChannel → Bool → DmaCore
  counted d u x done =
      let j = with_channel k ch (with_dma_channel_das x (down 65536 x.das)) in
      pick done (record { core = with_mdmaen j (clear_bit (mdmaen_of k) ch); dma = with_wait (with_progress d None) 7 })
      (record { core = j; dma = with_wait (with_progress d (progress_at ch ((u + 1) % 2 ^ 32))) 7 })

  pub das-moves : (d : Dma) (u : ℕ) (x : DmaChannel) → after_byte (with_channel k ch x) d ch u ≡ counted d u x (eqb (down 65536 x.das) 0)
  unfolding after_byte mdmaen_of with_channel
  das-moves d u x =
      let e = with_wait (with_progress d (progress_at ch ((u + 1) % 2 ^ 32))) 7 in
      let z = with_wait (with_progress d None) 7 in
      (λ i.
      let y = channel-put k ch x eight i in
      let das = down 65536 y.das in
      let j = with_channel (with_channel k ch x) ch (with_dma_channel_das y das) in
      pick (eqb das 0) (record { core = with_mdmaen j (clear_bit (mdmaen_of k) ch); dma = z }) (record { core = j; dma = e }))
      ∙ (λ i.
      let j = channel_twice k ch x (with_dma_channel_das x (down 65536 x.das)) i in
      pick (eqb (down 65536 x.das) 0) (record { core = with_mdmaen j (clear_bit (mdmaen_of k) ch); dma = z }) (record { core = j; dma = e }))

  -- DAS goes down, not to 0
  pub das-steps : (d : Dma) (u a : ℕ) → eqb (down 65536 c.das) 0 ≡ false
      → after_byte (with_channel k ch (with_dma_channel_a1t c a)) d ch u
      ≡ record { core = with_channel k ch (with_dma_channel_das (with_dma_channel_a1t c a) (down 65536 c.das)); dma = with_wait (with_progress d (progress_at ch ((u + 1) % 2 ^ 32))) 7 }
  das-steps d u a q = let x = with_dma_channel_a1t c a in das-moves d u x ∙ ap (counted d u x) q

  -- A1T goes on too
  pub channel-moves : (d : Dma) (u : ℕ) → eqb (down 65536 c.das) 0 ≡ false
      → after_byte (step_a1t k ch c.dmap) d ch u
      ≡ record {
        core = with_channel k ch (with_dma_channel_das (with_dma_channel_a1t c (next_a1t c.dmap c.a1t)) (down 65536 c.das));
        dma = with_wait (with_progress d (progress_at ch ((u + 1) % 2 ^ 32))) 7;
      }
  unfolding step_a1t
  channel-moves d u q = das-steps d u (next_a1t c.dmap c.a1t) q

module _ (rom : List ℕ) (w : World) (d : Dma) (ch u : ℕ) where
  -- the unit moves a byte
  pub moves : d.wait ≡ 0 → d.pending ≡ false → d.state ≡ state.Dma → d.progress ≡ progress_at ch u
      → cycle_from rom (at w d) ≡ holding (let v = transfer_byte rom w ch u in on_banks v (after_byte v.core d ch u))
  unfolding due_of acted act_by dma_step step_from
  moves a b s q = rw (b, a, s, q) refl
