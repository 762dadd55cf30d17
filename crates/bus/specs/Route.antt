-- Where an address leads and what it costs (bus/src/bus.rs; Fullsnes, "Memory map"; document 01, "Speeds").
use Rattle.std.specs.Prelude.{ℕ, Bool, true, false, Option, None, Some, ◌==◌, nat_lt}
use Rattle.common.specs.{Pick.pick, Range.within}
use Rattle.cartridge.specs.Cartridge.{rom_cost}
use Rattle.registers.specs.{WmAdd.stepped, declared.wm_address.WmAddBank.WmAddBank, declared.wm_address.WmAddress.WmAddress}
use Rattle.registers.specs.declared.wm_address.WmAddBank.TheVariants as wm
use Rattle.wram.specs.declared.Place.{Place}
use Rattle.wram.specs.declared.Place.TheVariants as at
use Rattle.bus.specs.declared.route.Route.{Route}
use Rattle.bus.specs.declared.route.Route.TheVariants.{Bank7E, Bank7F, Data, Registers, Cartridge}

-- the banks that have the mirror and the registers
abbrev pub system : ℕ → Bool
system b = pick (within 0x00 0x40 b) true (within 0x80 0xC0 b)

-- in such a bank: the mirror of $7E:0000-1FFF, WMDATA, the other registers, the cartridge
unfoldable pub system_route : ℕ → Route
system_route a = pick (nat_lt a 0x2000) Bank7E (pick (nat_lt a 0x6000) (pick (a == 0x2180) Data Registers) Cartridge)

-- system banks; work RAM; all else is the cartridge's
unfoldable pub route_of : ℕ → ℕ → Route
route_of b a = pick (system b) (system_route a) (pick (b == 0x7E) Bank7E (pick (b == 0x7F) Bank7F Cartridge))

-- work RAM by its own address, or the cartridge
abbrev pub memory : Route → Bool
memory Bank7E = true
memory Bank7F = true
memory Data = false
memory Registers = false
memory Cartridge = true

-- WMADD after an access to a port of page $21
abbrev pub next_wm : ℕ → WmAddress → WmAddress
next_wm p w = pick (p == 0x2180) (stepped w) w

-- the place that WMADD names
abbrev pub wm_place : WmAddBank → ℕ → Place
wm_place wm.Bank7E a = at.Bank7E a
wm_place wm.Bank7F a = at.Bank7F a

-- the byte of work RAM that an access reaches: by its address, or through $2180 by WMADD
unfoldable pub place_of : WmAddress → Route → ℕ → Option Place
place_of w Bank7E a = Some (at.Bank7E a)
place_of w Bank7F a = Some (at.Bank7F a)
place_of w Data a = Some (wm_place w.bank w.addr)
place_of w Registers a = None
place_of w Cartridge a = None

-- $4000-$41FF 12, the other registers 6
abbrev pub zone_cost : ℕ → ℕ
zone_cost a = pick (within 0x4000 0x4200 a) 12 6

-- work RAM 8, registers by their zone, the cartridge its own
abbrev pub cost_by : Route → ℕ → ℕ → ℕ → ℕ
cost_by Bank7E memsel b a = 8
cost_by Bank7F memsel b a = 8
cost_by Data memsel b a = zone_cost a
cost_by Registers memsel b a = zone_cost a
cost_by Cartridge memsel b a = rom_cost memsel b a

-- master cycles of an access
unfoldable pub cost_of : ℕ → ℕ → ℕ → ℕ
cost_of memsel b a = cost_by (route_of b a) memsel b a
