-- What the DMA unit sees of the registers, channels and enables, and what the names through which it looks (specs/View.antt) say of that.
use Rattle.std.proofs.Common.{◌≡◌, ℕ, ◌%◌, List, get_or, set, refl}
use Rattle.registers.specs.Groups.{with_enables_mdmaen}
use Rattle.registers.specs.{Channel.no_channel, declared.Enables.Enables, declared.Io.Io, declared.channel.DmaChannel.DmaChannel}
use Rattle.bus.specs.Access.{no_log, opened}
use Rattle.bus.specs.View.{channel_of, with_channel, mdmaen_of, with_mdmaen}
use Rattle.bus.specs.declared.access.Core.{Core}

pub record Seen : Type 0 where
  pub channels : List DmaChannel
  pub enables : Enables

abbrev pub seen : Io → Seen
seen io = record { channels = io.channels; enables = io.enables }

-- before anything is done on the bus
pub opened-seen : (io : Io) → seen (opened io).io ≡ seen io
unfolding opened
opened-seen io = refl

pub opened-empty : (io : Io) → (opened io).log ≡ no_log
unfolding opened
opened-empty io = refl

module _ (k : Core) (ch : ℕ) where
  pub channel-seen : channel_of k ch ≡ get_or k.io.channels (ch % 8) no_channel
  unfolding channel_of
  channel-seen = refl

  -- with other registers there; the log is as it was
  pub put-seen : (c : DmaChannel) → seen (with_channel k ch c).io ≡ record { channels = set k.io.channels (ch % 8) c; enables = k.io.enables }
  unfolding with_channel
  put-seen c = refl

  pub put-log : (c : DmaChannel) → (with_channel k ch c).log ≡ k.log
  unfolding with_channel
  put-log c = refl

module _ (k : Core) where
  pub mask-seen : mdmaen_of k ≡ k.io.enables.mdmaen
  unfolding mdmaen_of
  mask-seen = refl

  -- with another mask
  pub masked-seen : (m : ℕ) → seen (with_mdmaen k m).io ≡ record { channels = k.io.channels; enables = with_enables_mdmaen k.io.enables m }
  unfolding with_mdmaen
  masked-seen m = refl

  pub masked-log : (m : ℕ) → (with_mdmaen k m).log ≡ k.log
  unfolding with_mdmaen
  masked-log m = refl
