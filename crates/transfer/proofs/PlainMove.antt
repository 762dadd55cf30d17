-- A byte moved between memory and a port of the B bus: what the bus is left with.
use Rattle.std.proofs.Common.{Option, ◌≡◌, ℕ, ◌%◌, ◌<◌, ◌≤◌, Bool, true, false, not, ◌&&◌, ◌||◌, ltb, leb, List, set, ap, ◌∙◌}
use borrow.Author.Tests.{not-true}
use Rattle.common.specs.Pick.{pick}
use Rattle.bus.proofs.Ports.{read-memory, write-memory, place-memory, moved_io, read-port, write-port}
use Rattle.bus.specs.Access.{opened, io_written, register_read}
use Rattle.bus.specs.Route.{route_of, place_of, memory, next_wm}
use Rattle.bus.specs.World.{World, world, core, read_at, write_at}
use Rattle.registers.specs.{Groups.with_io-wmadd, Groups.with_io-openbus, declared.Io.Io, declared.read.IoRead.IoRead}
use Rattle.wram.specs.Banks.{Banks, banks, peeked, poked}
use Rattle.wram.specs.Olds.{no_olds, kept_at}
use Rattle.wram.specs.declared.Place.{Place}
use Rattle.transfer.specs.Bits.{flag_of}
use Rattle.transfer.specs.Byte.{trip_of, moved, moved_log}
use Rattle.transfer.specs.declared.byte.Trip.{Trip}

-- what a move leaves on the bus
abbrev pub moved_world : Io → Banks → Trip → Option Place → ℕ → World
moved_world io ram t place v = record { core = core io (moved_log t v) (kept_at no_olds ram place); ram = poked ram place v }

module _ (rom : List ℕ) (io : Io) (l h : List ℕ) where
  -- what a read of an address does
  abbrev pub read_of : ℕ → ℕ → IoRead
  read_of b a = register_read rom io (route_of b a) b a (peeked (banks l h) (place_of io.wmadd (route_of b a) a))

  -- the bytes last written to the APU, after a byte from or to a port
  abbrev pub apu_of : ℕ → Bool → ℕ → List ℕ
  apu_of p d v = pick (not d && leb 0x2140 p && ltb p 0x2180) (set io.ports.written (p % 4) v) io.ports.written

  -- all that the byte v leaves, from a port or to it
  abbrev pub leaves : ℕ → Bool → Trip → ℕ → World
  leaves p d t v =
      moved_world (moved_io io (next_wm p io.wmadd) v (apu_of p d v)) (banks l h) t
      (place_of io.wmadd (route_of t.target.bank t.target.addr) t.target.addr) v

module _ (rom : List ℕ) (io : Io) (l h : List ℕ) (dmap ab aa p : ℕ) (from : 0x2100 ≤ p) (to : p < 0x2200)
    (plain : memory (route_of ab aa) ≡ true) (own : (flag_of dmap 0x80 || not (leb 0x2181 p && ltb p 0x2184)) ≡ true) where
  abbrev ram : Banks
  ram = banks l h

  abbrev left : Bool → Trip → World
  left d t = leaves rom io l h p d t (read_of rom io l h t.source.bank t.source.addr).byte

  -- from memory to the port
  abbrev out : Trip
  out = record { source = record { bank = ab; addr = aa }; target = record { bank = 0; addr = p } }

  moves_out : (leb 0x2181 p && ltb p 0x2184) ≡ false → moved rom (world (opened io) l h) out ≡ left false out
  unfolding moved read_at write_at opened moved_log
  moves_out q =
      let r = read_of rom io l h ab aa in
      let v = r.byte in
      let place : Io → Option Place = λ (x : Io). place_of x.wmadd (route_of 0 p) p in
      (λ i.
      let x = read-memory io rom (route_of ab aa) ab aa (peeked ram (place_of io.wmadd (route_of ab aa) aa)) plain i in
      moved_world (io_written x (route_of 0 p) p v) ram out (place x) v)
      ∙ ap (λ (x : Io). moved_world x ram out (place io) v) (write-port p from to io v q)

  -- from the port to memory
  abbrev back : Trip
  back = record { source = record { bank = 0; addr = p }; target = record { bank = ab; addr = aa } }

  moves-back : moved rom (world (opened io) l h) back ≡ left true back
  unfolding moved read_at write_at opened moved_log
  moves-back =
      let r = read_of rom io l h 0 p in
      let v = r.byte in
      let o = with_io-openbus (with_io-wmadd io (next_wm p io.wmadd)) v in
      let place : Io → Option Place = λ (x : Io). place_of x.wmadd (route_of ab aa) aa in
      (λ i.
      let x = read-port p from to rom io (peeked ram (place_of io.wmadd (route_of 0 p) p)) i in
      moved_world (io_written x (route_of ab aa) aa v) ram back (place x) v)
      ∙ (λ i. moved_world (write-memory o (route_of ab aa) aa v plain i) ram back (place-memory o.wmadd io.wmadd (route_of ab aa) aa plain i) v)

  pub plain-move : moved rom (world (opened io) l h) (trip_of dmap ab aa p) ≡ left (flag_of dmap 0x80) (trip_of dmap ab aa p)
  unfolding trip_of
  plain-move = go (flag_of dmap 0x80) own
    where
      go : (d : Bool) → (d || not (leb 0x2181 p && ltb p 0x2184)) ≡ true → moved rom (world (opened io) l h) (pick d back out) ≡ left d (pick d back out)
      go true q = moves-back
      go false q = moves_out (not-true (leb 0x2181 p && ltb p 0x2184) q)
