-- What every state of a run has: the widths of its types, the ranges of document 01, whole banks. Each operation keeps it, and the
-- bytes that the operation overwrote, put back, give back both banks.
use Prim.Native.Nat.{ℕ, ◌-◌, ◌%◌}
use mathlib.Core.Bool.{Bool}
use mathlib.Core.List.{List}
use mathlib.Core.Path.{◌≡◌, refl, ◌∙◌}
use native.Mathlib.Omega.{arith}
use lib.Bits.{bit_and, and_high, and_le_r}
use lib.Dec.{eqb}
use lib.ListN.{length, length-set}
use Rattle.bench.specs.Calls.{event_of}
use Rattle.bench.specs.Host.{with_io, with_pads, pad_set, connect, plug_set, answer_set}
use Rattle.bus.proofs.Adds.{Recorded, read-recorded, write-recorded}
use Rattle.bus.proofs.FitLaws.{opened-fits, read_fits, write-fits, olds-ok, FitWorld}
use Rattle.bus.specs.World.{World}
use Rattle.common.proofs.{AllLaws.all_set, TableLaws.pick_elim}
use Rattle.common.specs.Range.{within}
use Rattle.joypad.specs.declared.ControllerPort.{ControllerPort}
use Rattle.machine.proofs.{Adds.cycle-recorded, FitLaws.machine-fits, FitLaws.cycle-fits}
use Rattle.machine.proofs.Ranges.{undisturbed_ok, cycle-ok, cycle-olds}
use Rattle.registers.proofs.{FitGroups.fit-pads, FitGroups.fit-ports}
use Rattle.registers.specs.Fit.{FitPort, FitIo}
use Rattle.common.specs.Width.{Byte, Word, Bytes}
use Rattle.registers.specs.declared.Io.{Io}
use Rattle.rewind.specs.Rules.{Op, cycle, read, write, pad, plug, answer, Typed, State, accessed, changed, obeyed}
use Rattle.state.proofs.Ranges.{MachineOk}
use Rattle.state.specs.Fit.{FitMachine}
use Rattle.state.specs.declared.Machine.{Machine}
use Rattle.wram.proofs.{FitLaws.no_olds-ok, Ranges.OldsOk}
use Rattle.wram.specs.Olds.{Olds, no_olds, put_back, back_from}

pub record Good (s : State) : Type 0 where
  pub fits : FitMachine s.machine
  pub ranges : MachineOk s.machine
  pub low-bytes : Bytes s.ram.low
  pub low-length : length s.ram.low ≡ 65536
  pub high-bytes : Bytes s.ram.high
  pub high-length : length s.ram.high ≡ 65536

-- what an operation owes: a good state, old bytes as an entry has them, and that they undo it
pub record Lawful (s s' : State) (olds : Olds) : Type 0 where
  pub good : Good s'
  pub olds-ok : OldsOk olds
  pub undo : put_back olds s'.ram ≡ s.ram

-- ---- read and write

module _ {a o : ℕ} (s : State) (w : World) (g : Good s) (f : FitWorld w) (r : Recorded a o s.machine.io s.ram.low s.ram.high w) where
  access-lawful : Lawful s (accessed s w).state w.core.olds
  access-lawful = record {
    good =
        record {
          fits = record { io = f.io; dma = g.fits.dma; board = g.fits.board };
          ranges = record { pads = undisturbed_ok g.ranges.pads r.pads; dma = g.ranges.dma; board = g.ranges.board };
          low-bytes = f.ram.low;
          low-length = r.low ∙ g.low-length;
          high-bytes = f.ram.high;
          high-length = r.high ∙ g.high-length;
        };
    olds-ok = olds-ok r f;
    undo = r.back;
  }

-- ---- pad, plug and port answer

module _ {s : State} (g : Good s) where
  change-lawful : (m : Machine) → FitMachine m → MachineOk m → Lawful s (changed s m).state no_olds
  unfolding put_back back_from
  change-lawful m f k = record {
    good =
        record {
          fits = f;
          ranges = k;
          low-bytes = g.low-bytes;
          low-length = g.low-length;
          high-bytes = g.high-bytes;
          high-length = g.high-length;
        };
    olds-ok = no_olds-ok;
    undo = refl;
  }

  -- other registers, the ports' buttons and the automatic read as they were
  io-lawful : {io : Io} → FitIo io → io.pads.auto ≡ s.machine.io.pads.auto → io.pads.port1.buttons ≡ s.machine.io.pads.port1.buttons
      → io.pads.port2.buttons ≡ s.machine.io.pads.port2.buttons → Lawful s (changed s (with_io s.machine io)).state no_olds
  io-lawful {io} f a b c =
      change-lawful (with_io s.machine io) (record { io = f; dma = g.fits.dma; board = g.fits.board })
      (record {
        pads = undisturbed_ok g.ranges.pads (record { auto = a; buttons = record { one = b; two = c } });
        dma = g.ranges.dma;
        board = g.ranges.board;
      })

  words-lawful : (one two : ℕ) → Word one → Word two → one % 16 ≡ 0 → two % 16 ≡ 0 → Lawful s (changed s (with_pads s.machine one two)).state no_olds
  words-lawful one two f h p q =
      let b = g.fits.board in
      let k = g.ranges.board in
      change-lawful (with_pads s.machine one two)
      (record { io = g.fits.io; dma = g.fits.dma; board = record { pad1 = f; pad2 = h; bitcycles = b.bitcycles; clock = b.clock } })
      (record { pads = g.ranges.pads; dma = g.ranges.dma; board = record { least = k.least; most = k.most; pad1 = p; pad2 = q } })

  -- a pad word without its low four bits
  masked-fits : (w : ℕ) → Word (bit_and w (65535 - 15))
  masked-fits w = omega (arith, and_le_r w (65535 - 15))

  masked-zero : (w : ℕ) → bit_and w (65535 - 15) % 16 ≡ 0
  masked-zero w = omega (arith, and_high w 12 4)

  pad-lawful : (port w : ℕ) → Lawful s (changed s (pad_set s.machine port w)).state no_olds
  unfolding pad_set
  pad-lawful port w =
      let b = g.fits.board in
      let k = g.ranges.board in
      pick_elim (λ (m : Machine). Lawful s (changed s m).state no_olds) (eqb port 0)
      (words-lawful (bit_and w (65535 - 15)) s.machine.board.pad2 (masked-fits w) b.pad2 (masked-zero w) k.pad2)
      (words-lawful s.machine.board.pad1 (bit_and w (65535 - 15)) b.pad1 (masked-fits w) k.pad1 (masked-zero w))

  connect-fits : {p : ControllerPort} (on : Bool) → FitPort p → FitPort (connect p on)
  connect-fits on f = record { buttons = f.buttons; shift = f.shift }

  plug-lawful : (port : ℕ) (on : Bool) → Lawful s (changed s (plug_set s.machine port on)).state no_olds
  unfolding plug_set
  plug-lawful port on =
      let f = g.fits.io in
      let p = f.pads in
      pick_elim (λ (m : Machine). Lawful s (changed s m).state no_olds) (eqb port 0)
      (io-lawful (fit-pads f (record { joyout = p.joyout; port1 = connect-fits on p.port1; port2 = p.port2; auto = p.auto })) refl refl refl)
      (io-lawful (fit-pads f (record { joyout = p.joyout; port1 = p.port1; port2 = connect-fits on p.port2; auto = p.auto })) refl refl refl)

  answer-lawful : (addr byte : ℕ) → Byte byte → Lawful s (changed s (answer_set s.machine addr byte)).state no_olds
  unfolding answer_set
  answer-lawful addr byte h =
      let f = g.fits.io in
      let p = f.ports in
      let ports = s.machine.io.ports in
      pick_elim (λ (m : Machine). Lawful s (changed s m).state no_olds) (within 0x2134 0x2140 addr)
      (io-lawful
      (fit-ports f
      (record {
        ppu-length = length-set ports.ppu (addr - 0x2134) byte ∙ p.ppu-length;
        ppu = all_set Byte ports.ppu (addr - 0x2134) byte p.ppu h;
        apu-length = p.apu-length;
        apu = p.apu;
        written-length = p.written-length;
        written = p.written;
      })) refl refl refl)
      (pick_elim (λ (m : Machine). Lawful s (changed s m).state no_olds) (within 0x2140 0x2144 addr)
      (io-lawful
      (fit-ports f
      (record {
        ppu-length = p.ppu-length;
        ppu = p.ppu;
        apu-length = length-set ports.apu (addr - 0x2140) byte ∙ p.apu-length;
        apu = all_set Byte ports.apu (addr - 0x2140) byte p.apu h;
        written-length = p.written-length;
        written = p.written;
      })) refl refl refl)
      (io-lawful f refl refl refl))

-- ---- every operation

pub lawful : (rom : List ℕ) → Bytes rom → (o : Op) → Typed o → (s : State) → Good s → Lawful s (obeyed rom o s).state (obeyed rom o s).olds
unfolding obeyed
lawful rom r (cycle event line timer) h s g =
    let m = s.machine in
    let l = s.ram.low in
    let u = s.ram.high in
    let e = event_of event in
    let f = cycle-fits rom m l u e line timer r g.fits g.low-bytes g.high-bytes in
    let c = cycle-recorded rom m l u e line timer in
    record {
      good =
          record {
            fits = machine-fits rom m l u e line timer r g.fits g.low-bytes g.high-bytes;
            ranges = cycle-ok rom m l u e line timer r g.fits g.low-bytes g.high-bytes g.ranges;
            low-bytes = f.world.ram.low;
            low-length = c.low ∙ g.low-length;
            high-bytes = f.world.ram.high;
            high-length = c.high ∙ g.high-length;
          };
      olds-ok = cycle-olds rom m l u e line timer r g.fits g.low-bytes g.high-bytes;
      undo = c.back;
    }
lawful rom r (read bank addr) h s g =
    access-lawful s _ g (read_fits (opened-fits g.fits.io g.low-bytes g.high-bytes) rom bank addr r).world
    (read-recorded rom s.machine.io s.ram.low s.ram.high bank addr)
lawful rom r (write bank addr byte) h s g =
    access-lawful s _ g (write-fits (opened-fits g.fits.io g.low-bytes g.high-bytes) bank h.1 h.2)
    (write-recorded s.machine.io s.ram.low s.ram.high bank addr byte)
lawful rom r (pad port w) h s g = pad-lawful g port w
lawful rom r (plug port on) h s g = plug-lawful g port on
lawful rom r (answer addr byte) h s g = answer-lawful g addr byte h.1
