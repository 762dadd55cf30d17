-- The registers, the log, the bytes overwritten and both banks: what one access does to them all (bus/src/bus.rs, read and write).
use Rattle.std.specs.Prelude.{ℕ, true, false, List, Option}
use Rattle.registers.specs.declared.{Io.Io, read.IoRead.IoRead}
use Rattle.wram.specs.Banks.{Banks, banks, peeked, poked}
use Rattle.wram.specs.{Olds.kept_at, Olds.Olds, declared.Place.Place}
use Rattle.bus.specs.Access.{Log, push_access, io_written, register_read}
use Rattle.bus.specs.Route.{route_of, place_of}
use Rattle.bus.specs.declared.access.Core.{Core}

-- what stands on the bus: registers, log and bytes overwritten, and both banks
pub record World : Type 0 where
  pub core : Core
  pub ram : Banks

-- what a read leaves, and its byte
pub record Reading : Type 0 where
  pub world : World
  pub byte : ℕ

-- a world of the code's values
abbrev pub world : Core → List ℕ → List ℕ → World
world k l h = record { core = k; ram = banks l h }

-- registers, log and bytes overwritten put together
abbrev pub core : Io → Log → Olds → Core
core io log olds = record { io = io; log = log; olds = olds }

-- the place in work RAM of an access
abbrev pub place_at : World → ℕ → ℕ → Option Place
place_at w b a = place_of w.core.io.wmadd (route_of b a) a

-- the registers after a read, and the byte
abbrev pub read_io_at : List ℕ → World → ℕ → ℕ → IoRead
read_io_at rom w b a = register_read rom w.core.io (route_of b a) b a (peeked w.ram (place_at w b a))

-- a read: the byte, the registers after it, one access more
unfoldable pub read_at : List ℕ → World → ℕ → ℕ → Reading
read_at rom w b a =
    let r = read_io_at rom w b a in
    record {
      world = record { core = core r.io (push_access w.core.log (record { write = false; bank = b; addr = a; byte = r.byte })) w.core.olds; ram = w.ram };
      byte = r.byte;
    }

-- a write: the byte at its place and the one that it replaced kept, the registers after it, one access more
unfoldable pub write_at : World → ℕ → ℕ → ℕ → World
write_at w b a v =
    record {
      core = core (io_written w.core.io (route_of b a) a v) (push_access w.core.log (record { write = true; bank = b; addr = a; byte = v })) (kept_at w.core.olds w.ram (place_at w b a));
      ram = poked w.ram (place_at w b a) v;
    }
