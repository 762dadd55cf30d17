-- What a cycle does before the DMA unit acts (buttons, event, automatic joypad, timer) leaves WMADD alone, and all that the unit sees.
use Rattle.std.proofs.Common.{◌≡◌, ℕ, Bool, eqb, ltb, refl, ap, ◌∙◌}
use lib.Bits.{bit_and}
use Rattle.common.proofs.TableLaws.{pick_elim}
use Rattle.bus.proofs.Seen.{Seen, seen}
use Rattle.machine.specs.Cycle.{settled_of}
use Rattle.machine.specs.Event.{pressed, vblank_started, frame_started, evented, settled, timed}
use Rattle.machine.specs.declared.event.Event.{Event}
use Rattle.machine.specs.declared.event.Event.TheVariants.{Nothing, HBlankStart, NormalLine, VBlankStart, FrameStart}
use Rattle.registers.specs.{Write.irq_disabled, declared.Io.Io, declared.pads.AutoJoypad.AutoJoypad, declared.wm_address.WmAddress.WmAddress}
use Rattle.registers.specs.declared.pads.AutoJoypad.TheVariants.{Idle, Pending, Reading}
use Rattle.signals.specs.AutoJoypad.{step_from, auto_step, auto_start}
use Rattle.state.specs.declared.Machine.{Machine}

-- WMADD, and what the DMA unit sees
abbrev left : Io → WmAddress × Seen
left io = (io.wmadd, seen io)

-- x has those of io
abbrev Kept : Io → Io → Type 0
Kept io x = left x ≡ left io

auto-kept : (a : AutoJoypad) (io : Io) (bitcycles : ℕ) → Kept io (step_from a io bitcycles)
auto-kept Idle io bitcycles = refl
auto-kept (Pending n) io bitcycles = pick_elim (Kept io) (eqb n 0) refl refl
auto-kept (Reading bits n) io bitcycles = pick_elim (Kept io) (eqb n 0) (pick_elim (Kept io) (ltb 1 bits) refl refl) refl

event-kept : (io : Io) (event : Event) → Kept io (evented io event)
unfolding evented vblank_started frame_started auto_start
event-kept io Nothing = refl
event-kept io HBlankStart = refl
event-kept io NormalLine = refl
event-kept io VBlankStart = pick_elim (Kept io) (eqb (bit_and io.enables.nmitimen 1) 0) refl refl
event-kept io FrameStart = refl

settled-kept : (io : Io) (pad1 pad2 : ℕ) (event : Event) (bitcycles : ℕ) → Kept io (settled io pad1 pad2 event bitcycles)
unfolding settled pressed auto_step
settled-kept io pad1 pad2 event bitcycles =
    let x = pressed io pad1 pad2 in let y = evented x event in auto-kept y.pads.auto y bitcycles ∙ event-kept x event

timed-kept : (io : Io) (hit : Bool) → Kept io (timed io hit)
unfolding timed
timed-kept io hit = pick_elim (Kept io) hit (pick_elim (Kept io) (irq_disabled io.enables.nmitimen) refl refl) refl

pub before-kept : (io : Io) (pad1 pad2 : ℕ) (event : Event) (bitcycles : ℕ) (hit : Bool) → (timed (settled io pad1 pad2 event bitcycles) hit).wmadd ≡ io.wmadd
before-kept io pad1 pad2 event bitcycles hit =
    ap (λ x. x.0) (timed-kept (settled io pad1 pad2 event bitcycles) hit ∙ settled-kept io pad1 pad2 event bitcycles)

module _ (m : Machine) (event : Event) where
  settled_of-kept : Kept m.io (settled_of m event)
  settled_of-kept = settled-kept m.io m.board.pad1 m.board.pad2 event m.board.bitcycles

  pub settled-seen : seen (settled_of m event) ≡ seen m.io
  settled-seen = ap (λ x. x.1) settled_of-kept

  pub before-wmadd : (hit : Bool) → (timed (settled_of m event) hit).wmadd ≡ m.io.wmadd
  before-wmadd = before-kept m.io m.board.pad1 m.board.pad2 event m.board.bitcycles
