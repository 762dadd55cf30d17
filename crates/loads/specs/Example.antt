-- A machine that is ready: at power-on, with channel 0 set to send 256 bytes from $7E:0000 to $2118 and its MDMAEN bit set.
use Rattle.std.specs.Prelude.{ℕ, List, length, set}
use Rattle.bench.specs.Calls.{Desk, desk}
use Rattle.machine.specs.PowerOn.{power_on_machine}
use Rattle.registers.specs.Groups.{with_io-channels, with_io-enables, with_enables_mdmaen}
use Rattle.registers.specs.declared.channel.DmaChannel.{DmaChannel}
use Rattle.ring.specs.Slots.{bench}
use Rattle.state.specs.declared.Machine.{Machine}
use Rattle.wram.specs.{Banks.banks, Sum.ram_sum}

-- one byte after the other, upwards, to one port
abbrev pub sender : DmaChannel
sender = record { dmap = 0x00; bbad = 0x18; a1t = 0x0000; a1b = 0x7E; das = 0x0100; dasb = 0xFF; a2a = 0xFFFF; nltr = 0xFF; unused = 0xFF }

abbrev pub example : Machine
example =
    let m = power_on_machine 264 in
    record {
      io = with_io-enables (with_io-channels m.io (set m.io.channels 0 sender)) (with_enables_mdmaen m.io.enables 1);
      dma = m.dma;
      board = m.board;
    }

-- a desk with it, and with no operation on its record
abbrev pub example_desk : (low high entries : List ℕ) → Desk
example_desk low high entries = desk (bench example 0 0 (length entries) (ram_sum (banks low high))) low high entries
