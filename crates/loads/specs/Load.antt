-- A load: what the channels of MDMAEN move, where each byte goes, and how many cycles it costs (document 02, 5/12).
use Rattle.std.specs.Prelude.{ℕ, zero, suc, ◌+◌, ◌-◌, ◌*◌, ◌/◌, ◌%◌, ◌^◌, Bool, true, false, ◌&&◌, List, [], ◌∷◌, ◌++◌, map, eqb, length, get_or}
use Rattle.common.specs.{Pick.pick, Range.within}
use Rattle.bus.specs.{Route.system, declared.access.Access.Access}
use Rattle.dma.specs.Cycle.{alignment}
use Rattle.fullsnes.specs.Said.{pattern_of, bytes_of}
use Rattle.registers.specs.{Channel.no_channel, declared.channel.DmaChannel.DmaChannel}
use Rattle.state.specs.declared.Machine.{Machine}
use Rattle.transfer.specs.Bits.{flag_of}
use Rattle.transfer.specs.Byte.{trip_of}
use Rattle.transfer.specs.declared.byte.Trip.{Trip}

-- ---- the selected channels

-- a bit of MDMAEN is set
abbrev pub bit : ℕ → ℕ → Bool
bit mask ch = eqb (mask / 2 ^ ch % 2) 1

-- the channels of a list whose bit is set
unfoldable pub selected_in : ℕ → List ℕ → List ℕ
selected_in mask [] = []
selected_in mask (ch ∷ chs) = pick (bit mask ch) (ch ∷ selected_in mask chs) (selected_in mask chs)

-- lowest first
abbrev pub selected : ℕ → List ℕ
selected mask = selected_in mask (0 ∷ 1 ∷ 2 ∷ 3 ∷ 4 ∷ 5 ∷ 6 ∷ 7 ∷ [])

-- a channel's registers
abbrev pub channel_at : List DmaChannel → ℕ → DmaChannel
channel_at cs ch = get_or cs ch no_channel

-- the registers of the selected channels
abbrev pub channels_of : List DmaChannel → ℕ → List DmaChannel
channels_of cs mask = map (channel_at cs) (selected mask)

-- ---- a channel's bytes

-- how many: DAS, or 65,536 for 0
abbrev pub many : DmaChannel → ℕ
many c = bytes_of c.das

-- A1T after i bytes, at most 65,536: up, down or not at all, modulo 65,536 in its bank
abbrev pub a1t_at : DmaChannel → ℕ → ℕ
a1t_at c i = pick (flag_of c.dmap 0x08) c.a1t (pick (flag_of c.dmap 0x10) ((c.a1t + 65536 - i) % 65536) ((c.a1t + i) % 65536))

-- the port of byte i, by the pattern
abbrev pub port_at : DmaChannel → ℕ → ℕ
port_at c i = 0x2100 + (c.bbad + get_or (pattern_of c.dmap) (i % length (pattern_of c.dmap)) 0) % 256

-- its way, in DMAP's direction
abbrev pub way_at : DmaChannel → ℕ → Trip
way_at c i = trip_of c.dmap c.a1b (a1t_at c i) (port_at c i)

-- the ways of the first n bytes
unfoldable pub ways_to : DmaChannel → ℕ → List Trip
ways_to c zero = []
ways_to c (suc n) = ways_to c n ++ way_at c n ∷ []

-- all ways, channel after channel
unfoldable pub ways_of : List DmaChannel → List Trip
ways_of [] = []
ways_of (c ∷ cs) = ways_to c (many c) ++ ways_of cs

-- a way's read and its write, of the same byte
abbrev pub pair : Trip → ℕ → List Access
pair t v =
    record { write = false; bank = t.source.bank; addr = t.source.addr; byte = v }
    ∷ record { write = true; bank = t.target.bank; addr = t.target.addr; byte = v }
    ∷ []

-- the accesses of ways, with the byte that each carries; there are to be as many bytes as ways
unfoldable pub carried : List Trip → List ℕ → List Access
carried [] vs = []
carried (t ∷ ts) [] = []
carried (t ∷ ts) (v ∷ vs) = pair t v ++ carried ts vs

-- ---- what it costs, and what is left

-- 8 and 8 for each byte, for each channel
unfoldable pub cycles_of : List DmaChannel → ℕ
cycles_of [] = 0
cycles_of (c ∷ cs) = 8 + 8 * many c + cycles_of cs

-- alignment, 9, and the channels'
abbrev pub holds : Machine → ℕ
holds m = alignment m.board.clock + 9 + cycles_of (channels_of m.io.channels m.io.enables.mdmaen)

-- a channel that has run: DAS 0, and A1T moved by as many as its bytes
abbrev pub finished : DmaChannel → DmaChannel
finished c =
    record {
      dmap = c.dmap;
      bbad = c.bbad;
      a1t = a1t_at c (many c);
      a1b = c.a1b;
      das = 0;
      dasb = c.dasb;
      a2a = c.a2a;
      nltr = c.nltr;
      unused = c.unused;
    }

-- $2000-$5FFF of a system bank
abbrev pub registers : ℕ → ℕ → Bool
registers b a = system b && within 0x2000 0x6000 a
