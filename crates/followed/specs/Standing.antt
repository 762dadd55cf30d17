-- A log of accesses replayed as a listing has it: where WMADD stands before each, what the writes leave in work RAM, and that the reads
-- find it there.
use Rattle.std.specs.Prelude.{ℕ, zero, suc, ◌<◌, false, List, Option, None, ◌≢◌, ◌≡◌, get_or}
use Rattle.common.specs.Pick.{pick}
use Rattle.bus.specs.{Access.no_access, Route.route_of, Route.place_of, World.World}
use Rattle.bus.specs.declared.access.Access.{Access}
use Rattle.registers.specs.declared.wm_address.WmAddress.{WmAddress}
use Rattle.touch.specs.Reach.{wm_after}
use Rattle.wram.specs.Banks.{Banks, peeked, poked}
use Rattle.wram.specs.declared.Place.{Place}

-- WMADD after the first n accesses, from s before the first
unfoldable pub wm_at : WmAddress → List Access → ℕ → WmAddress
wm_at s items zero = s
wm_at s items (suc n) = wm_after (wm_at s items n) (get_or items n no_access)

-- the byte of work RAM that an access is listed with
abbrev pub place_by : WmAddress → Access → Option Place
place_by w a = place_of w (route_of a.bank a.addr) a.addr

-- a write puts its byte there; a read puts nothing
abbrev pub ram_by : WmAddress → Access → Banks → Banks
ram_by w a b = pick a.write (poked b (place_by w a) a.byte) b

-- a read of work RAM is listed with the byte that is there
abbrev pub Told : WmAddress → Access → Banks → Type 0
Told w a b = a.write ≡ false → place_by w a ≢ None → a.byte ≡ peeked b (place_by w a)

-- work RAM after the first n accesses, from b before the first
unfoldable pub ram_at : WmAddress → Banks → List Access → ℕ → Banks
ram_at s b items zero = b
ram_at s b items (suc n) = ram_by (wm_at s items n) (get_or items n no_access) (ram_at s b items n)

-- WMADD and work RAM are what the accesses logged so far make of s and b, and each read found its byte
pub record Stands (s : WmAddress) (b : Banks) (w : World) : Type 0 where
  pub wmadd : w.core.io.wmadd ≡ wm_at s w.core.log.items w.core.log.count
  pub ram : w.ram ≡ ram_at s b w.core.log.items w.core.log.count
  pub told : (i : ℕ) → i < w.core.log.count → Told (wm_at s w.core.log.items i) (get_or w.core.log.items i no_access) (ram_at s b w.core.log.items i)
