-- What the DMA unit sees of the registers. Each name is shut, so that whoever cites it is blind to the register file.
use Rattle.std.specs.Prelude.{ℕ, ◌%◌, slice_index_or, slice_set}
use Rattle.registers.specs.{Channel.no_channel, declared.Io.Io, declared.channel.DmaChannel.DmaChannel}
use Rattle.registers.specs.Groups.{with_io-channels, with_io-enables, with_enables_mdmaen}
use Rattle.bus.specs.World.{World}
use Rattle.bus.specs.declared.access.Core.{Core}

-- the core with another register file
abbrev pub with_io : Core → Io → Core
with_io k io = record { io = io; log = k.log; olds = k.olds }

-- a channel's registers
unfoldable pub channel_of : Core → ℕ → DmaChannel
channel_of k ch = slice_index_or k.io.channels (ch % 8) no_channel

-- and written
unfoldable pub with_channel : Core → ℕ → DmaChannel → Core
with_channel k ch c = with_io k (with_io-channels k.io (slice_set k.io.channels (ch % 8) c))

-- the general channels still to run
unfoldable pub mdmaen_of : Core → ℕ
mdmaen_of k = k.io.enables.mdmaen

-- and set
unfoldable pub with_mdmaen : Core → ℕ → Core
with_mdmaen k m = with_io k (with_io-enables k.io (with_enables_mdmaen k.io.enables m))

-- the channels enabled for H-blank
unfoldable pub hdmaen_of : Core → ℕ
hdmaen_of k = k.io.enables.hdmaen

-- the world with another core
abbrev pub with_core : World → Core → World
with_core w k = record { core = k; ram = w.ram }
