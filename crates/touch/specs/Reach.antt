-- What an access reaches (bus/src/bus.rs; Fullsnes, "Memory map", "WMADDL/M/H"): a byte of work RAM, by its address or through $2180, and
-- WMADD after it; and whether a transfer's write falls on the registers of its own channel.
use Rattle.std.specs.Prelude.{ℕ, ◌+◌, ◌/◌, Bool, false, Option, None, Some, ◌&&◌, List, [], ◌∷◌, eqb, ltb}
use Rattle.common.specs.{Pick.pick, Word.with_lo, Word.with_hi}
use Rattle.common.specs.Table.{Entry, at, find}
use Rattle.registers.specs.{Groups.with_wm_address_bank, Groups.with_wm_address_addr, WmAdd.bank_from, WmAdd.stepped}
use Rattle.registers.specs.declared.wm_address.WmAddress.{WmAddress}
use Rattle.wram.specs.declared.Place.{Place}
use Rattle.wram.specs.declared.Place.TheVariants as place
use Rattle.bus.specs.{Route.route_of, Route.place_of, declared.access.Access.Access, declared.route.Route.Route}
use Rattle.bus.specs.declared.route.Route.TheVariants.{Bank7E, Bank7F, Data, Registers, Cartridge}
use Rattle.touch.specs.declared.{who.Who.Who, reach.Reach.Reach}
use Rattle.touch.specs.declared.who.Who.TheVariants.{Cpu, Dma as General, Hdma}

-- what an access reaches: a byte of work RAM by its number, the registers of its own channel, WMADD after it
pub record Reached : Type 0 where
  pub spot : ℕ
  pub own : Bool
  pub after : WmAddress

-- the number of what code has as a byte's offset, if any: 131,072 is none, so an offset past the last byte stands one higher
abbrev pub spot_number : Option ℕ → ℕ
spot_number None = 131072
spot_number (Some n) = pick (ltb n 131072) n (n + 1)

-- the same, of what the code has
abbrev pub reach_seen : Reach → Reached
reach_seen r = record { spot = spot_number r.spot; own = r.own; after = r.after }

-- the offset of a byte of work RAM, $7E:0000 first; 131,072 is no byte
abbrev pub spot_of : Option Place → ℕ
spot_of None = 131072
spot_of (Some (place.Bank7E a)) = a
spot_of (Some (place.Bank7F a)) = a + 65536

-- a write to $43n0-$43nF where the registers are
abbrev pub own_by : ℕ → Route → Access → Bool
own_by n Bank7E a = false
own_by n Bank7F a = false
own_by n Data a = false
own_by n Registers a = a.write && eqb (a.addr / 16) (n + 0x430)
own_by n Cartridge a = false

-- by the channel that makes it
abbrev pub own_of : Who → Route → Access → Bool
own_of Cpu way a = false
own_of (General n) way a = own_by n way a
own_of (Hdma n) way a = own_by n way a

-- $2181 low byte, $2182 high byte, $2183 bank
abbrev pub wm_table : WmAddress → ℕ → List (Entry WmAddress)
wm_table w v =
    at 0x2181 (with_wm_address_addr w (with_lo w.addr v))
    ∷ at 0x2182 (with_wm_address_addr w (with_hi w.addr v))
    ∷ at 0x2183 (with_wm_address_bank w (bank_from v))
    ∷ []

abbrev pub wm_written : WmAddress → ℕ → ℕ → WmAddress
wm_written w a v = find (wm_table w v) a w

-- $2180 goes one byte up, whether read or written
abbrev pub wm_by : Route → WmAddress → Access → WmAddress
wm_by Bank7E w a = w
wm_by Bank7F w a = w
wm_by Data w a = stepped w
wm_by Registers w a = pick a.write (wm_written w a.addr a.byte) w
wm_by Cartridge w a = w

-- WMADD after an access
unfoldable pub wm_after : WmAddress → Access → WmAddress
wm_after w a = wm_by (route_of a.bank a.addr) w a

unfoldable pub reach_of : Who → WmAddress → Access → Reached
reach_of who w a =
    let way = route_of a.bank a.addr in
    record { spot = spot_of (place_of w way a.addr); own = own_of who way a; after = wm_after w a }
