-- The DMA unit beside the bus as the code lends both.
use Rattle.bus.specs.Lent.{world_on, holding, on_core, world_seen, core_seen}
use Rattle.bus.specs.declared.bus.{Bus.Bus, ReadBus.ReadBus}
use Rattle.state.specs.declared.Dma.{Dma}
use Rattle.hdma.specs.Engine.{DmaCore, DmaWorld, at}

-- a bus and a DMA unit
pub record Unit : Type 0 where
  pub bus : Bus
  pub dma : Dma

abbrev pub unit : Bus → Dma → Unit
unit b d = record { bus = b; dma = d }

-- what stands on them
abbrev pub unit_on : Bus → Dma → DmaWorld
unit_on b d = at (world_on b) d

-- the same bus with this left on it, and the DMA unit
abbrev pub left_on : Bus → DmaWorld → Unit
left_on b m = unit (holding b m.world) m.dma

-- the same bus with these registers, and the DMA unit
abbrev pub core_on : Bus → DmaCore → Unit
core_on b m = unit (on_core b m.core) m.dma

-- a bus that is only read, and a DMA unit
pub record ReadUnit : Type 0 where
  pub bus : ReadBus
  pub dma : Dma

abbrev pub read_unit : ReadBus → Dma → ReadUnit
read_unit b d = record { bus = b; dma = d }

-- what stands on them
abbrev pub unit_seen : ReadBus → Dma → DmaWorld
unit_seen b d = at (world_seen b) d

-- that bus with the registers left on it, and the DMA unit
abbrev pub left_seen : ReadBus → DmaWorld → ReadUnit
left_seen b m = read_unit (core_seen b m.world.core) m.dma
