-- One HDMA unit (src/dma.rs, hdma_transfer_unit): its address is taken before its bytes and stored after.
use Rattle.std.specs.Prelude.{ℕ, zero, suc, ◌+◌, ◌%◌, Bool, List}
use Rattle.common.specs.Pick.{pick}
use Rattle.common.specs.declared.snes_address.SnesAddress.{SnesAddress}
use Rattle.bus.specs.View.{channel_of, with_channel, with_core}
use Rattle.bus.specs.World.{World}
use Rattle.bus.specs.declared.access.Core.{Core}
use Rattle.registers.specs.Groups.{with_dma_channel_a2a, with_dma_channel_das}
use Rattle.registers.specs.declared.channel.DmaChannel.{DmaChannel}
use Rattle.transfer.specs.Byte.{trip_of, moved}
use Rattle.transfer.specs.Pattern.{offset_of, unit_len, b_address}

-- byte i, at a given A address; DMAP and BBAD are those from before the unit
unfoldable pub unit_byte : List ℕ → DmaChannel → ℕ → ℕ → ℕ → World → World
unit_byte rom c bank addr i w = moved rom w (trip_of c.dmap bank addr (b_address c.bbad (offset_of c.dmap i)))

-- the first n bytes: byte i is i addresses up, with wrap inside the bank
unfoldable pub unit_bytes : List ℕ → DmaChannel → ℕ → ℕ → ℕ → World → World
unit_bytes rom c bank addr zero w = w
unit_bytes rom c bank addr (suc n) w = unit_byte rom c bank ((addr + n) % 65536) n (unit_bytes rom c bank addr n w)

-- direct: the table itself; indirect: DASB:DAS
unfoldable pub source_of : DmaChannel → Bool → SnesAddress
source_of c ind = pick ind (record { bank = c.dasb; addr = c.das }) (record { bank = c.a1b; addr = c.a2a })

-- the address behind the last byte goes back to where it came from
unfoldable pub source_stored : Core → ℕ → Bool → ℕ → Core
source_stored k ch ind addr =
    let c = channel_of k ch in
    pick ind (with_channel k ch (with_dma_channel_das c addr)) (with_channel k ch (with_dma_channel_a2a c addr))

-- what a unit leaves, and how many bytes it moved
pub record SentUnit : Type 0 where
  pub world : World
  pub bytes : ℕ

-- a unit from an address
abbrev pub unit_from : List ℕ → DmaChannel → SnesAddress → World → ℕ → Bool → SentUnit
unit_from rom c s w ch ind =
    let v = unit_bytes rom c s.bank s.addr (unit_len c.dmap) w in
    record { world = with_core v (source_stored v.core ch ind ((s.addr + unit_len c.dmap) % 65536)); bytes = unit_len c.dmap }

-- a whole unit of a channel
unfoldable pub unit_sent : List ℕ → World → ℕ → Bool → SentUnit
unit_sent rom w ch ind = let c = channel_of w.core ch in unit_from rom c (source_of c ind) w ch ind
