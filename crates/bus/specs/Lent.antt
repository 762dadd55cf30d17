-- The bus as the code lends it: what stands on it, and the same bus with something else on it.
use Rattle.wram.specs.Lent.{seen}
use Rattle.wram.specs.Lent as ram
use Rattle.bus.specs.World.{World, world}
use Rattle.bus.specs.declared.{access.Core.Core, bus.Bus.Bus, bus.ReadBus.ReadBus}

-- the world on it
abbrev pub world_on : Bus → World
world_on b = record { core = b.core; ram = seen b.ram.now }

-- with another world on it
abbrev pub holding : Bus → World → Bus
holding b w = record b { core = w.core; ram = record b.ram { now = ram.holding b.ram.now w.ram } }

-- with other registers
abbrev pub on_core : Bus → Core → Bus
on_core b k = record b { core = k }

-- the world on a bus that is only read
abbrev pub world_seen : ReadBus → World
world_seen b = world b.core.now b.low.now b.high.now

-- that bus with other registers
abbrev pub core_seen : ReadBus → Core → ReadBus
core_seen b k = record b { core = record b.core { now = k } }
