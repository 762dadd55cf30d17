-- What the host does to the machine (document 01, "Calls"): pad word, plug, port answer.
use Rattle.std.specs.Prelude.{ℕ, ◌-◌, Bool, eqb, set}
use Rattle.common.specs.{Pick.pick, Range.within}
use Rattle.joypad.specs.Port.{buttons_of}
use Rattle.joypad.specs.declared.ControllerPort.{ControllerPort}
use Rattle.registers.specs.Groups.{with_io-pads, with_io-ports, with_pads-port1, with_pads-port2, with_ports_ppu, with_ports_apu}
use Rattle.registers.specs.declared.Io.{Io}
use Rattle.state.specs.declared.Machine.{Machine}

-- the machine with another register file
abbrev pub with_io : Machine → Io → Machine
with_io m io = record { io = io; dma = m.dma; board = m.board }

-- the machine with other pad words
abbrev pub with_pads : Machine → ℕ → ℕ → Machine
with_pads m one two =
    let b = m.board in
    record { io = m.io; dma = m.dma; board = record { pad1 = one; pad2 = two; nmi = b.nmi; bitcycles = b.bitcycles; clock = b.clock } }

-- the pad word of a port, without its low four bits, and nothing else
unfoldable pub pad_set : Machine → ℕ → ℕ → Machine
pad_set m port w =
    pick (eqb port 0) (with_pads m (buttons_of w) m.board.pad2) (with_pads m m.board.pad1 (buttons_of w))

-- a port with or without a pad
abbrev pub connect : ControllerPort → Bool → ControllerPort
connect p on = record { connected = on; latch = p.latch; buttons = p.buttons; shift = p.shift }

-- the connected flag of a port, and nothing else
unfoldable pub plug_set : Machine → ℕ → Bool → Machine
plug_set m port on =
    let io = m.io in
    pick (eqb port 0) (with_io m (with_io-pads io (with_pads-port1 io.pads (connect io.pads.port1 on))))
    (with_io m (with_io-pads io (with_pads-port2 io.pads (connect io.pads.port2 on))))

-- one of the PPU's twelve answer bytes or the APU's four
unfoldable pub answer_set : Machine → ℕ → ℕ → Machine
answer_set m a v =
    let io = m.io in
    pick (within 0x2134 0x2140 a) (with_io m (with_io-ports io (with_ports_ppu io.ports (set io.ports.ppu (a - 0x2134) v))))
    (pick (within 0x2140 0x2144 a) (with_io m (with_io-ports io (with_ports_apu io.ports (set io.ports.apu (a - 0x2140) v)))) m)
