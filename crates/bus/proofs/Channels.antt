-- A channel is what was last put there.
use Rattle.std.proofs.Common.{◌≡◌, ℕ, ◌%◌, length, arith, get_or-set_same, set-set}
use Rattle.registers.specs.{Channel.no_channel, Groups.with_io-channels}
use Rattle.registers.specs.declared.channel.DmaChannel.{DmaChannel}
use Rattle.bus.specs.View.{with_io, channel_of, with_channel}
use Rattle.bus.specs.declared.access.Core.{Core}

pub channel-put : (k : Core) (ch : ℕ) (c : DmaChannel) → length k.io.channels ≡ 8 → channel_of (with_channel k ch c) ch ≡ c
unfolding channel_of with_channel
channel-put k ch c l = get_or-set_same k.io.channels (ch % 8) c no_channel (omega arith)

pub channel_twice : (k : Core) (ch : ℕ) (x y : DmaChannel) → with_channel (with_channel k ch x) ch y ≡ with_channel k ch y
unfolding with_channel
channel_twice k ch x y = λ i. with_io k (with_io-channels k.io (set-set k.io.channels (ch % 8) x y i))
