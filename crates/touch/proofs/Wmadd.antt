-- A listing follows WMADD without the registers: after every access WMADD is what `wm_after` says of the access that the bus logs, and
-- the byte of work RAM that the bus reads or writes is at the spot that `reach_of` names.
use Prim.Native.Nat.{ℕ}
use mathlib.Core.Bool.{Bool, true, false}
use mathlib.Core.List.{List}
use mathlib.Core.Path.{◌≡◌, refl}
use borrow.Author.Tests.{eqb-true}
use lib.Dec.{eqb}
use lib.ListN.{drop}
use Rattle.common.specs.Range.{within}
use Rattle.common.proofs.{AllLaws.◌also◌, TableLaws.pick_elim, TableLaws.find_elim}
use Rattle.registers.specs.{Groups.with_io-openbus, Read.after_table, Read.read_io}
use Rattle.registers.specs.Write.{write_table, write_cpu, write_io}
use Rattle.registers.specs.declared.Io.{Io}
use Rattle.wram.specs.Banks.{peeked}
use Rattle.bus.specs.{Access.io_written, Access.register_read, Route.route_of}
use Rattle.bus.specs.World.{World, place_at, read_at, write_at}
use Rattle.bus.specs.declared.{access.Access.Access, route.Route.Route}
use Rattle.bus.specs.declared.route.Route.TheVariants.{Bank7E, Bank7F, Data, Registers, Cartridge}
use Rattle.touch.specs.Reach.{spot_of, wm_written, wm_by, wm_after, reach_of}
use Rattle.touch.specs.declared.who.Who.{Who}

-- the access that a read logs, and that a write logs
abbrev pub as_read : List ℕ → World → ℕ → ℕ → Access
as_read rom w b a = record { write = false; bank = b; addr = a; byte = (read_at rom w b a).byte }

abbrev pub as_write : ℕ → ℕ → ℕ → Access
as_write b a v = record { write = true; bank = b; addr = a; byte = v }

-- of the registers only $2181-$2183 set WMADD
module _ (io : Io) (a v : ℕ) where
  abbrev Follows : Type 0
  Follows = (write_cpu io a v).wmadd ≡ wm_written io.wmadd a v

  elsewhere : eqb a 0x2181 ≡ false → eqb a 0x2182 ≡ false → eqb a 0x2183 ≡ false → Follows
  elsewhere e f g =
      let P : Io → Type 0 = λ (x : Io). x.wmadd ≡ io.wmadd in
      rw e (rw f (rw g (pick_elim P (within 0x2140 0x2180 a) refl
      (pick_elim P (within 0x4300 0x4380 a) refl
      (find_elim P (drop 3 (write_table io v)) a
      (refl also refl also refl also refl also refl also refl also refl also refl
      also refl also refl also refl also refl also refl also refl also refl also tt)
      refl)))))

  bank_test : (t : Bool) → eqb a 0x2183 ≡ t → eqb a 0x2181 ≡ false → eqb a 0x2182 ≡ false → Follows
  bank_test true e f g = rw (eqb-true a 0x2183 e)
  bank_test false e f g = elsewhere f g e

  high_test : (t : Bool) → eqb a 0x2182 ≡ t → eqb a 0x2181 ≡ false → Follows
  high_test true e f = rw (eqb-true a 0x2182 e)
  high_test false e f = bank_test (eqb a 0x2183) refl f e

  low_test : (t : Bool) → eqb a 0x2181 ≡ t → Follows
  low_test true e = rw (eqb-true a 0x2181 e)
  low_test false e = high_test (eqb a 0x2182) refl e

write-follows : (io : Io) (a v : ℕ) → (write_io io a v).wmadd ≡ wm_written io.wmadd a v
write-follows io a v = low_test (with_io-openbus io v) a v (eqb a 0x2181) refl

read-follows : (io : Io) (a : ℕ) → (read_io io a).io.wmadd ≡ io.wmadd
read-follows io a =
    find_elim (λ (x : Io). x.wmadd ≡ io.wmadd) (after_table io) a (refl also refl also refl also refl also tt) refl

-- by where the address leads
written-by : (io : Io) (way : Route) (b a v : ℕ) → (io_written io way a v).wmadd ≡ wm_by way io.wmadd (as_write b a v)
unfolding io_written
written-by io Bank7E b a v = refl
written-by io Bank7F b a v = refl
written-by io Data b a v = refl
written-by io Registers b a v = write-follows io a v
written-by io Cartridge b a v = refl

read_by : (rom : List ℕ) (io : Io) (way : Route) (b a v x : ℕ)
    → (register_read rom io way b a v).io.wmadd ≡ wm_by way io.wmadd (record { write = false; bank = b; addr = a; byte = x })
unfolding register_read
read_by rom io Bank7E b a v x = refl
read_by rom io Bank7F b a v x = refl
read_by rom io Data b a v x = refl
read_by rom io Registers b a v x = read-follows io a
read_by rom io Cartridge b a v x = refl

-- WMADD after a read, and after a write
pub read-wmadd : (rom : List ℕ) (w : World) (b a : ℕ) → (read_at rom w b a).world.core.io.wmadd ≡ wm_after w.core.io.wmadd (as_read rom w b a)
unfolding read_at wm_after
read-wmadd rom w b a = read_by rom w.core.io (route_of b a) b a (peeked w.ram (place_at w b a)) _

pub write-wmadd : (w : World) (b a v : ℕ) → (write_at w b a v).core.io.wmadd ≡ wm_after w.core.io.wmadd (as_write b a v)
unfolding write_at wm_after
write-wmadd w b a v = written-by w.core.io (route_of b a) b a v

-- the byte that `read_at` looks at and `write_at` puts, `place_at`, is the one that is listed
pub read-spot : (rom : List ℕ) (who : Who) (w : World) (b a : ℕ) → (reach_of who w.core.io.wmadd (as_read rom w b a)).spot ≡ spot_of (place_at w b a)
unfolding reach_of
read-spot rom who w b a = refl

pub write-spot : (who : Who) (w : World) (b a v : ℕ) → (reach_of who w.core.io.wmadd (as_write b a v)).spot ≡ spot_of (place_at w b a)
unfolding reach_of
write-spot who w b a v = refl
