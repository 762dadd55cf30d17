-- A machine in its widths stays in them: at power-on and after every cycle.
use Rattle.std.proofs.Common.{ℕ, Bool, true, false, eqb, List, refl, arith}
use Rattle.common.proofs.{AllLaws.all_replicate, TableLaws.pick_elim}
use Rattle.bus.proofs.FitLaws.{opened-fits}
use Rattle.dma.proofs.FitLaws.{updated-fits}
use Rattle.hdma.proofs.FitLaws.{FitDmaWorld}
use Rattle.registers.proofs.{FitGroups.fit-pads, FitKept.fit-power_on, FitParts.fit-buttons}
use Rattle.registers.specs.Fit.{FitIo}
use Rattle.common.specs.Width.{Word, Bytes}
use Rattle.registers.specs.Write.{irq_disabled}
use Rattle.registers.specs.declared.Io.{Io}
use Rattle.signals.proofs.FitKept.{fit_nmi_flag, fit_timeup_flag, fit-hvbjoy, fit-auto_start, fit-auto_step}
use Rattle.state.specs.Hdma.{no_hdma}
use Rattle.state.specs.Fit.{FitHdma, FitDma, FitBoard, FitMachine}
use Rattle.state.specs.declared.{Board.Board, Dma.Dma, Machine.Machine}
use Rattle.machine.specs.Cycle.{machine_after, armed, ticked, begun, cycled}
use Rattle.machine.specs.Event.{pressed, vblank_started, frame_started, evented, settled, timed}
use Rattle.machine.specs.PowerOn.{power_on_dma, power_on_machine}
use Rattle.machine.specs.declared.event.Event.{Event}
use Rattle.machine.specs.declared.event.Event.TheVariants.{Nothing, HBlankStart, NormalLine, VBlankStart, FrameStart}

pub power_on-fits : (bitcycles : ℕ) → Word bitcycles → FitMachine (power_on_machine bitcycles)
unfolding power_on_machine power_on_dma
power_on-fits bitcycles h = record {
  io = fit-power_on;
  dma = record { wait = omega arith; progress = tt; queue = omega arith; channels-length = refl; channels = all_replicate FitHdma 8 no_hdma (omega arith) };
  board = omega arith;
}

module _ {io : Io} (f : FitIo io) where
  pressed-fits : (pad1 pad2 : ℕ) → FitIo (pressed io pad1 pad2)
  unfolding pressed
  pressed-fits pad1 pad2 =
      let p = f.pads in
      fit-pads f (record { joyout = p.joyout; port1 = fit-buttons pad1 p.port1; port2 = fit-buttons pad2 p.port2; auto = p.auto })

  evented-fits : (event : Event) → FitIo (evented io event)
  unfolding evented vblank_started frame_started
  evented-fits Nothing = f
  evented-fits HBlankStart = fit-hvbjoy f 0x40 true (omega arith)
  evented-fits NormalLine = fit-hvbjoy f 0x40 false (omega arith)
  evented-fits VBlankStart = fit-auto_start (fit_nmi_flag (fit-hvbjoy (fit-hvbjoy f 0x40 false (omega arith)) 0x80 true (omega arith)) true)
  evented-fits FrameStart = fit_nmi_flag (fit-hvbjoy (fit-hvbjoy f 0x40 false (omega arith)) 0x80 false (omega arith)) false

  timed-fits : (hit : Bool) → FitIo (timed io hit)
  unfolding timed
  timed-fits hit = pick_elim FitIo hit (pick_elim FitIo (irq_disabled io.enables.nmitimen) f (fit_timeup_flag f true)) f

settled-fits : {io : Io} (pad1 pad2 : ℕ) (event : Event) {bitcycles : ℕ} → FitIo io → Word bitcycles → FitIo (settled io pad1 pad2 event bitcycles)
unfolding settled
settled-fits pad1 pad2 event {bitcycles} f h = fit-auto_step bitcycles (evented-fits (pressed-fits f pad1 pad2) event) (omega arith)

armed-fits : {d : Dma} (mask : ℕ) (frame line : Bool) → FitDma d → FitDma (armed d mask frame line)
unfolding armed
armed-fits mask frame line f = pick_elim FitDma (eqb mask 0) f (search)

ticked-fits : {b : Board} (nmi : Bool) → FitBoard b → FitBoard (ticked b nmi)
ticked-fits nmi f = omega arith

module _ (rom : List ℕ) (m : Machine) (l h : List ℕ) (event : Event) (line hit : Bool) (r : Bytes rom) (f : FitMachine m) (p : Bytes l) (q : Bytes h) where
  pub begun-fits : FitDmaWorld (begun m l h event line hit)
  begun-fits = record {
    world = opened-fits (timed-fits (settled-fits m.board.pad1 m.board.pad2 event f.io f.board.bitcycles) hit) p q;
    dma = armed-fits _ _ line f.dma;
  }

  -- what a cycle leaves on the bus, bytes overwritten and banks with it
  pub cycle-fits : FitDmaWorld (cycled rom m l h event line hit).after
  unfolding cycled
  cycle-fits = updated-fits rom r m.board.clock begun-fits

  pub machine-fits : FitMachine (machine_after (cycled rom m l h event line hit))
  unfolding cycled
  machine-fits = record { io = cycle-fits.world.io; dma = cycle-fits.dma; board = ticked-fits _ f.board }
