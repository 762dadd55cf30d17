-- A1T steps by DMAP bits 3 and 4, up, down or not at all, and stays in its bank.
use Prim.Native.Nat.{ℕ, ◌+◌, ◌%◌}
use mathlib.Core.Bool.{Bool}
use mathlib.Core.Path.{◌≡◌}
use lib.ListN.{length}
use Rattle.bus.specs.View.{channel_of}
use Rattle.bus.specs.declared.access.Core.{Core}
use Rattle.common.specs.Pick.{pick}
use Rattle.bus.proofs.Channels.{channel-put}
use Rattle.registers.specs.Groups.{with_dma_channel_a1t}
use Rattle.transfer.specs.{Bits.flag_of, Byte.step_a1t}

module _ (k : Core) (ch dmap : ℕ) (whole : length k.io.channels ≡ 8) where
  abbrev a1t : ℕ
  a1t = (channel_of k ch).a1t

  -- where it is next, by the two bits
  abbrev next : Bool → Bool → ℕ
  next fixed backward = pick fixed a1t (pick backward ((a1t + 65535) % 65536) ((a1t + 1) % 65536))

  -- the channel afterwards: A1T alone is another, and the bank is as it was
  pub stepped : channel_of (step_a1t k ch dmap) ch ≡ with_dma_channel_a1t (channel_of k ch) (next (flag_of dmap 0x08) (flag_of dmap 0x10))
  unfolding step_a1t
  stepped = channel-put k ch (with_dma_channel_a1t (channel_of k ch) (next (flag_of dmap 0x08) (flag_of dmap 0x10))) whole
