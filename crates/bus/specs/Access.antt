-- What an access does to the registers, and the log of accesses (document 01: 0 to 11 of them, in order, unused places zero).
use Rattle.std.specs.Prelude.{ℕ, zero, suc, min, false, List, [], ◌∷◌, ◌++◌, slice_index_or}
use Rattle.common.specs.{Fill.none, Fill.pushed, declared.counted.Counted.Counted}
use Rattle.cartridge.specs.Cartridge.{rom_byte}
use Rattle.registers.specs.{Groups.with_io-wmadd, Groups.with_io-openbus, Read.read_io, WmAdd.stepped, Write.write_io}
use Rattle.registers.specs.declared.{Io.Io, read.IoRead.IoRead}
use Rattle.wram.specs.Olds.{no_olds}
use Rattle.bus.specs.declared.{access.Access.Access, access.Core.Core, route.Route.Route}
use Rattle.bus.specs.declared.route.Route.TheVariants.{Bank7E, Bank7F, Data, Registers, Cartridge}

-- the accesses of an operation, with their count: antt has no name for the code's alias
abbrev pub Log : Type 0
Log = Counted Access 11

-- an unused place
abbrev pub no_access : Access
no_access = record { write = false; bank = 0; addr = 0; byte = 0 }

-- no access yet; unused places are zero
abbrev pub no_log : Log
no_log = none 11 no_access

-- one more: the count steps, and the first eleven are stored
unfoldable pub push_access : Log → Access → Log
push_access log a = pushed 11 log a

-- the first n places of a log
unfoldable pub firsts : ℕ → List Access → List Access
firsts zero items = []
firsts (suc n) items = firsts n items ++ slice_index_or items n no_access ∷ []

-- the accesses that a log holds: at most eleven
abbrev pub accesses_of : Log → List Access
accesses_of log = firsts (min log.count 11) log.items

-- nothing done on the bus yet
unfoldable pub opened : Io → Core
opened io = record { io = io; log = no_log; olds = no_olds }

-- $2180: the byte is the open bus, and WMADD goes one up
abbrev pub data_stepped : Io → ℕ → Io
data_stepped io v = with_io-openbus (with_io-wmadd io (stepped io.wmadd)) v

-- a write to work RAM or the cartridge leaves the registers alone
unfoldable pub io_written : Io → Route → ℕ → ℕ → Io
io_written io Bank7E a v = io
io_written io Bank7F a v = io
io_written io Data a v = data_stepped io v
io_written io Registers a v = write_io io a v
io_written io Cartridge a v = io

-- a read that gives a byte
abbrev pub gave : Io → ℕ → IoRead
gave io v = record { io = io; byte = v }

-- a read gives the byte that work RAM holds, a register's or the cartridge's; where no chip answers, the open bus
unfoldable pub register_read : List ℕ → Io → Route → ℕ → ℕ → ℕ → IoRead
register_read rom io Bank7E b a v = gave io v
register_read rom io Bank7F b a v = gave io v
register_read rom io Data b a v = gave (data_stepped io v) v
register_read rom io Registers b a v = read_io io a
register_read rom io Cartridge b a v = gave io (rom_byte rom b a io.openbus)
