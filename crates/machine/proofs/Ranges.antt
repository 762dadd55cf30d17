-- The ranges of document 01 hold at power-on and after every cycle that started in them.
use Rattle.std.proofs.Common.{ℕ, ◌%◌, ◌≤◌, Bool, true, false, eqb, List, refl, ap, ◌∙◌, arith}
use Rattle.common.proofs.TableLaws.{pick_elim}
use Rattle.bus.proofs.FitLaws.{mdmaen-fits, olds-ok}
use Rattle.dma.proofs.Ranges.{updated-ok}
use Rattle.joypad.proofs.Buttons.{low_bits}
use Rattle.registers.specs.{PowerOn.power_on, Write.irq_disabled}
use Rattle.registers.proofs.{Ranges.AutoOk, PadsLaws.SameButtons, PadsLaws.Undisturbed}
use Rattle.registers.specs.declared.{Io.Io, pads.Pads.Pads}
use Rattle.signals.proofs.RangesKept.{auto-step_ok, auto_start-ok, auto_step-buttons, auto_start-buttons}
use Rattle.signals.specs.Flags.{set_nmi_flag, set_vblank, set_hblank}
use Rattle.state.specs.Fit.{FitMachine}
use Rattle.state.proofs.Ranges.{DmaOk, PadsOk, MachineOk}
use Rattle.state.specs.declared.{Dma.Dma, Machine.Machine}
use Rattle.wram.proofs.Ranges.{OldsOk}
use Rattle.common.specs.Width.{Bytes}
use Rattle.machine.proofs.{Adds.cycle-recorded, FitLaws.begun-fits, FitLaws.cycle-fits}
use Rattle.machine.specs.Cycle.{machine_after, armed, settled_of, begun, cycled}
use Rattle.machine.specs.Event.{pressed, vblank_started, frame_started, evented, settled, timed}
use Rattle.machine.specs.PowerOn.{power_on_dma, power_on_machine}
use Rattle.machine.specs.declared.event.Event.{Event}
use Rattle.machine.specs.declared.event.Event.TheVariants.{Nothing, HBlankStart, NormalLine, VBlankStart, FrameStart}

pub power_on-ok : (bitcycles : ℕ) → 1 ≤ bitcycles → bitcycles ≤ 4096 → MachineOk (power_on_machine bitcycles)
unfolding power_on_machine power_on_dma power_on
power_on-ok bitcycles p q = record {
  pads = record { auto = tt; one = refl; two = refl };
  dma = record { wait = omega arith; progress = tt };
  board = record { least = p; most = q; pad1 = refl; pad2 = refl };
}

module _ {bitcycles : ℕ} where
  -- the same buttons, the automatic read in its range
  same_ok : {p q : Pads} → PadsOk p bitcycles → AutoOk q.auto bitcycles → SameButtons p q → PadsOk q bitcycles
  same_ok f a s = record { auto = a; one = ap (λ (n : ℕ). n % 16) s.one ∙ f.one; two = ap (λ (n : ℕ). n % 16) s.two ∙ f.two }

  -- what an access leaves
  pub undisturbed_ok : {p q : Pads} → PadsOk p bitcycles → Undisturbed p q → PadsOk q bitcycles
  undisturbed_ok f u = same_ok f (rw u.auto f.auto) u.buttons

  pressed-ok : (io : Io) (pad1 pad2 : ℕ) → AutoOk io.pads.auto bitcycles → PadsOk (pressed io pad1 pad2).pads bitcycles
  unfolding pressed
  pressed-ok io pad1 pad2 a = record { auto = a; one = low_bits io.pads.port1 pad1; two = low_bits io.pads.port2 pad2 }

  evented-ok : (io : Io) (event : Event) → PadsOk io.pads bitcycles → PadsOk (evented io event).pads bitcycles
  unfolding evented vblank_started frame_started
  evented-ok io Nothing f = f
  evented-ok io HBlankStart f = f
  evented-ok io NormalLine f = f
  evented-ok io VBlankStart f =
      let x = set_nmi_flag (set_vblank (set_hblank io false) true) true in same_ok f (auto_start-ok x bitcycles f.auto) (auto_start-buttons x)
  evented-ok io FrameStart f = f

  timed-ok : (io : Io) (hit : Bool) → PadsOk io.pads bitcycles → PadsOk (timed io hit).pads bitcycles
  unfolding timed
  timed-ok io hit f =
      let P : Io → Type 0 = λ (x : Io). PadsOk x.pads bitcycles in
      pick_elim P hit (pick_elim P (irq_disabled io.enables.nmitimen) f f) f

  settled-ok : (io : Io) (pad1 pad2 : ℕ) (event : Event) → 1 ≤ bitcycles → PadsOk io.pads bitcycles
      → PadsOk (settled io pad1 pad2 event bitcycles).pads bitcycles
  unfolding settled
  settled-ok io pad1 pad2 event h f =
      let x = evented (pressed io pad1 pad2) event in
      let g = evented-ok (pressed io pad1 pad2) event (pressed-ok io pad1 pad2 f.auto) in
      same_ok g (auto-step_ok x bitcycles h g.auto) (auto_step-buttons x bitcycles)

armed-ok : {d : Dma} (mask : ℕ) (frame line : Bool) → DmaOk d → DmaOk (armed d mask frame line)
unfolding armed
armed-ok mask frame line f = pick_elim DmaOk (eqb mask 0) f (record { wait = f.wait; progress = f.progress })

module _ (rom : List ℕ) (m : Machine) (l h : List ℕ) (event : Event) (line hit : Bool) (r : Bytes rom) (f : FitMachine m) (p : Bytes l) (q : Bytes h) where
  pub cycle-ok : MachineOk m → MachineOk (machine_after (cycled rom m l h event line hit))
  unfolding cycled
  cycle-ok k =
      let u = (cycle-recorded rom m l h event line hit).pads in
      let s = timed-ok (settled_of m event) hit (settled-ok m.io m.board.pad1 m.board.pad2 event k.board.least k.pads) in
      record {
        pads = undisturbed_ok s u;
        dma = updated-ok rom (begun m l h event line hit) m.board.clock (armed-ok _ _ line k.dma) (mdmaen-fits (begun-fits rom m l h event line hit r f p q).world);
        board = record { least = k.board.least; most = k.board.most; pad1 = k.board.pad1; pad2 = k.board.pad2 };
      }

  -- the bytes overwritten are as an entry has them
  pub cycle-olds : OldsOk (cycled rom m l h event line hit).after.world.core.olds
  cycle-olds = olds-ok (cycle-recorded rom m l h event line hit) (cycle-fits rom m l h event line hit r f p q).world
