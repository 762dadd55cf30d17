-- Document 01, "Corners proved together": for (a) to (j) what the definitions give, that the code is proved against, beside what the
-- document lists. Yes is 1 and no is 0.
use Rattle.std.specs.Prelude.{ℕ, zero, suc, ◌+◌, ◌-◌, Bool, true, false, List, [], ◌∷◌, get_or, set}
use mir.Val.{bool_byte}
use Rattle.bus.specs.{Access.no_access, Access.opened, World.world}
use Rattle.dma.specs.Cycle.{alignment}
use Rattle.hdma.specs.Engine.{DmaWorld, at, with_channels, hdma_at}
use Rattle.hdma.specs.Line.{line_channel}
use Rattle.machine.specs.{Cycle.machine_after, Cycle.cycled, PowerOn.power_on_dma, PowerOn.power_on_machine}
use Rattle.machine.specs.declared.event.Event.TheVariants.{Nothing}
use Rattle.registers.specs.Groups.{with_io-channels, with_io-openbus, with_io-pads, with_pads-port1}
use Rattle.registers.specs.Maths.{multiplying, dividing, rddiv_read, rdmpy_read}
use Rattle.registers.specs.{PowerOn.power_on, Read.read_byte, WmAdd.stepped, WmNumber.bit16, Write.write_io}
use Rattle.registers.specs.declared.{Io.Io, channel.DmaChannel.DmaChannel, wm_address.WmAddBank.WmAddBank}
use Rattle.registers.specs.declared.wm_address.WmAddBank.TheVariants.{Bank7E, Bank7F}
use Rattle.state.specs.{Hdma.no_hdma, declared.HdmaChannelState.HdmaChannelState, declared.Machine.Machine}
use Rattle.transfer.specs.Pattern.{offset_of, b_address}

-- what the definitions give, and what document 01 lists
pub record Corner : Type 0 where
  pub given : List ℕ
  pub listed : List ℕ

-- both put together
abbrev pub corner : List ℕ → List ℕ → Corner
corner given listed = record { given = given; listed = listed }

-- a bank of work RAM by its number
abbrev pub bank : WmAddBank → ℕ
bank b = 0x7E + bit16 b

-- the bank that a byte written to $2183 gives
abbrev pub bank_written : ℕ → ℕ
bank_written v = bank (write_io power_on 0x2183 v).wmadd.bank

-- WMADD one step on, as bank and address
abbrev pub step : WmAddBank → List ℕ
step b = let w = stepped (record { bank = b; addr = 0xFFFF }) in bank w.bank ∷ w.addr ∷ []

-- the open bus is $FF; controller port 2's data is 0, and port 1's is 1
abbrev pub floating : Io
floating =
    with_io-openbus (with_io-pads power_on (with_pads-port1 power_on.pads (record { connected = true; latch = false; buttons = 0; shift = 0x8000 }))) 0xFF

-- channel 0 with these registers and this HDMA state, after a line; the ROM from $8000 up is its table
abbrev pub line_of : DmaChannel → HdmaChannelState → List ℕ → DmaWorld
line_of c h table =
    let w = world (opened (with_io-channels power_on (set power_on.channels 0 c))) [] [] in
    line_channel table (at w (with_channels power_on_dma (set power_on_dma.channels 0 h))) 0

-- a direct channel in mode 0, at its table's start
abbrev pub direct : DmaChannel
direct = record { dmap = 0x00; bbad = 0x18; a1t = 0x8000; a1b = 0; das = 0; dasb = 0; a2a = 0x8000; nltr = 0; unused = 0 }

-- an indirect channel in mode 4, at its table's start
abbrev pub indirect : DmaChannel
indirect = record { dmap = 0x44; bbad = 0x18; a1t = 0x8000; a1b = 0; das = 0; dasb = 0x7E; a2a = 0x8000; nltr = 0; unused = 0 }

-- after a line of the direct channel with this counter and this table: the byte that the line moved, its last access; the counter; whether
-- the next line transfers
abbrev pub after_line : ℕ → List ℕ → List ℕ
after_line n table =
    let m = line_of direct (record { counter = n; transfer = true; finished = false }) table in
    let log = m.world.core.log in
    let h = hdma_at m.dma 0 in
    (get_or log.items (log.count - 1) no_access).byte ∷ h.counter ∷ bool_byte h.transfer ∷ []

-- HDMAEN has one channel, and it has finished
abbrev pub finished_one : Machine
finished_one =
    let m = power_on_machine 264 in
    record {
      io = write_io m.io 0x420C 1;
      dma = with_channels m.dma (set m.dma.channels 0 (record { counter = 0; transfer = false; finished = true }));
      board = m.board;
    }

-- how many of the next n cycles are held, where a line is due in the first or not
unfoldable pub held : ℕ → Bool → Machine → ℕ
held zero due m = 0
held (suc n) due m = let t = cycled [] m [] [] Nothing due false in bool_byte t.held + held n false (machine_after t)

-- document 01's list
abbrev pub corners : List Corner
corners =
    corner (alignment 0 ∷ alignment 1 ∷ alignment 15 ∷ []) (8 ∷ 7 ∷ 1 ∷ [])  -- (a)
    ∷ corner (rddiv_read (dividing power_on 1000 7) ∷ rdmpy_read (dividing power_on 1000 7) ∷ []) (142 ∷ 6 ∷ [])  -- (b)
    ∷ corner (rddiv_read (dividing power_on 1000 0) ∷ rdmpy_read (dividing power_on 1000 0) ∷ []) (65535 ∷ 1000 ∷ [])  -- (b)
    ∷ corner (rdmpy_read (multiplying power_on 255 255) ∷ []) (65025 ∷ [])  -- (c)
    ∷ corner (step Bank7E) (0x7F ∷ 0x0000 ∷ [])  -- (d)
    ∷ corner (step Bank7F) (0x7E ∷ 0x0000 ∷ [])  -- (d)
    ∷ corner (bank_written 0xFE ∷ bank_written 1 ∷ []) (0x7E ∷ 0x7F ∷ [])  -- (e)
    ∷ corner (offset_of 5 0 ∷ offset_of 5 1 ∷ offset_of 5 2 ∷ offset_of 5 3 ∷ []) (0 ∷ 1 ∷ 0 ∷ 1 ∷ [])  -- (f)
    ∷ corner (b_address 0xFF 1 ∷ []) (0x2100 ∷ [])  -- (f)
    ∷ corner (after_line 1 (0x5A ∷ [])) (0x5A ∷ 0 ∷ 1 ∷ [])  -- (g)
    ∷ corner (after_line 2 (0x5A ∷ [])) (0x5A ∷ 1 ∷ 0 ∷ [])  -- (g)
    ∷ corner (after_line 0x81 (0x5A ∷ [])) (0x5A ∷ 0x80 ∷ 1 ∷ [])  -- (g)
    ∷ corner (after_line 0 (0x80 ∷ 0x5A ∷ [])) (0x5A ∷ 0x7F ∷ 1 ∷ [])  -- (g), a $80 just read
    ∷ corner (read_byte floating 0x4017 ∷ read_byte floating 0x4016 ∷ []) (0xFC ∷ 0xFD ∷ [])  -- (h)
    ∷ corner (((line_of indirect no_hdma (1 ∷ 0 ∷ 0 ∷ [])).dma.wait + 1) ∷ []) (56 ∷ [])  -- (i)
    ∷ corner (held 40 true finished_one ∷ []) (20 ∷ [])  -- (j)
    ∷ []
