-- One byte moved, and the byte of a general transfer (src/dma.rs, dma_transfer_byte).
use Rattle.std.specs.Prelude.{ℕ, true, false, List}
use Rattle.common.specs.Pick.{pick}
use Rattle.bus.specs.{Access.no_log, Access.push_access, declared.access.Core.Core, Access.Log}
use Rattle.bus.specs.View.{channel_of, with_channel, with_core}
use Rattle.bus.specs.World.{World, read_at, write_at}
use Rattle.registers.specs.Groups.{with_dma_channel_a1t}
use Rattle.transfer.specs.Bits.{flag_of, down, up}
use Rattle.transfer.specs.Pattern.{offset_of, b_address}
use Rattle.transfer.specs.declared.byte.Trip.{Trip}

-- from A to B, or from B to A where DMAP bit 7 is set; the B side is in bank $00
unfoldable pub trip_of : ℕ → ℕ → ℕ → ℕ → Trip
trip_of dmap abank aaddr baddr =
    pick (flag_of dmap 0x80) (record { source = record { bank = 0; addr = baddr }; target = record { bank = abank; addr = aaddr } })
    (record { source = record { bank = abank; addr = aaddr }; target = record { bank = 0; addr = baddr } })

-- read, then written
unfoldable pub moved : List ℕ → World → Trip → World
moved rom w t =
    let r = read_at rom w t.source.bank t.source.addr in write_at r.world t.target.bank t.target.addr r.byte

-- the read of a byte v, then its write
unfoldable pub moved_log : Trip → ℕ → Log
moved_log t v =
    push_access (push_access no_log (record { write = false; bank = t.source.bank; addr = t.source.addr; byte = v }))
    (record { write = true; bank = t.target.bank; addr = t.target.addr; byte = v })

-- A1T steps inside its bank: bit 3 of DMAP holds it, else bit 4 takes it down
abbrev pub next_a1t : ℕ → ℕ → ℕ
next_a1t dmap a1t = pick (flag_of dmap 0x08) a1t (pick (flag_of dmap 0x10) (down 65536 a1t) (up 65536 a1t))

-- a channel with its A1T stepped: both bits are from before the byte, A1T is not
unfoldable pub step_a1t : Core → ℕ → ℕ → Core
step_a1t k ch dmap = let c = channel_of k ch in with_channel k ch (with_dma_channel_a1t c (next_a1t dmap c.a1t))

-- the trip of a general byte: DMAP, BBAD and the address are those from before it
abbrev pub trip_at : World → ℕ → ℕ → Trip
trip_at w ch u =
    let c = channel_of w.core ch in trip_of c.dmap c.a1b c.a1t (b_address c.bbad (offset_of c.dmap u))

-- the byte moves; then A1T, as the byte may have rewritten it, steps
unfoldable pub transfer_byte : List ℕ → World → ℕ → ℕ → World
transfer_byte rom w ch u =
    let v = moved rom w (trip_at w ch u) in with_core v (step_a1t v.core ch (channel_of w.core ch).dmap)
