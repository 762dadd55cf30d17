-- A byte between memory and a port of page $21, whichever way it goes: what the DMA unit sees is as it was, and the log has a read and a write
-- of one byte.
use Rattle.std.proofs.Common.{◌≡◌, ℕ, ◌<◌, ◌≤◌, Bool, true, false, List, ap, ◌∙◌}
use Rattle.common.specs.Pick.{pick}
use Rattle.bus.proofs.Ports.{read-memory, write-memory, read-seen, write-seen}
use Rattle.bus.proofs.Seen.{seen}
use Rattle.bus.specs.Access.{Log, no_log, push_access}
use Rattle.bus.specs.Route.{route_of, memory}
use Rattle.bus.specs.World.{World, read_io_at, read_at, write_at}
use Rattle.registers.specs.declared.Io.{Io}
use Rattle.transfer.specs.Bits.{flag_of}
use Rattle.transfer.specs.Byte.{trip_of, moved, moved_log}
use Rattle.transfer.specs.declared.byte.Trip.{Trip}

module _ (rom : List ℕ) (w : World) (dmap ab aa p : ℕ) (from : 0x2100 ≤ p) (to : p < 0x2200) (plain : memory (route_of ab aa) ≡ true) where
  abbrev io : Io
  io = w.core.io

  -- the two ways
  abbrev out : Trip
  out = record { source = record { bank = ab; addr = aa }; target = record { bank = 0; addr = p } }

  abbrev back : Trip
  back = record { source = record { bank = 0; addr = p }; target = record { bank = ab; addr = aa } }

  pub moved-seen : seen (moved rom w (trip_of dmap ab aa p)).core.io ≡ seen io
  unfolding trip_of moved read_at write_at
  moved-seen = go (flag_of dmap 0x80)
    where
      go : (d : Bool) → seen (moved rom w (pick d back out)).core.io ≡ seen io
      go true =
          let r = read_io_at rom w 0 p in
          ap seen (write-memory r.io (route_of ab aa) aa r.byte plain) ∙ read-seen p from to rom io _
      go false =
          let r = read_io_at rom w ab aa in
          write-seen p from to r.io r.byte ∙ ap seen (read-memory io rom (route_of ab aa) ab aa _ plain)

-- where nothing was done on the bus before
pub moved-log : (rom : List ℕ) (w : World) (t : Trip) → w.core.log ≡ no_log
    → (moved rom w t).core.log ≡ moved_log t (read_at rom w t.source.bank t.source.addr).byte
unfolding moved read_at write_at moved_log
moved-log rom w t e =
    let v = (read_io_at rom w t.source.bank t.source.addr).byte in
    ap (λ (l : Log). push_access (push_access l (record { write = false; bank = t.source.bank; addr = t.source.addr; byte = v }))
    (record { write = true; bank = t.target.bank; addr = t.target.addr; byte = v })) e
