-- What happens to the registers in a cycle before the DMA unit acts (src/rsnes.rs, update; document 01, "Events").
use Rattle.std.specs.Prelude.{ℕ, Bool, true, false}
use Rattle.common.specs.Pick.{pick}
use Rattle.joypad.specs.Port.{set_buttons}
use Rattle.registers.specs.Groups.{with_io-pads, with_pads-port1, with_pads-port2}
use Rattle.registers.specs.Write.{irq_disabled}
use Rattle.registers.specs.declared.Io.{Io}
use Rattle.signals.specs.AutoJoypad.{auto_step, auto_start}
use Rattle.signals.specs.Flags.{set_nmi_flag, set_timeup_flag, set_vblank, set_hblank}
use Rattle.machine.specs.declared.event.Event.{Event}
use Rattle.machine.specs.declared.event.Event.TheVariants.{Nothing, HBlankStart, NormalLine, VBlankStart, FrameStart}

-- the ports' buttons are the pad words
unfoldable pub pressed : Io → ℕ → ℕ → Io
pressed io pad1 pad2 =
    with_io-pads io (with_pads-port2 (with_pads-port1 io.pads (set_buttons io.pads.port1 pad1)) (set_buttons io.pads.port2 pad2))

-- V-blank and the NMI flag are set, and the automatic read is scheduled
unfoldable pub vblank_started : Io → Io
vblank_started io = auto_start (set_nmi_flag (set_vblank io true) true)

-- V-blank and the NMI flag are cleared
unfoldable pub frame_started : Io → Io
frame_started io = set_nmi_flag (set_vblank io false) false

-- any line start clears H-blank first
unfoldable pub evented : Io → Event → Io
evented io Nothing = io
evented io HBlankStart = set_hblank io true
evented io NormalLine = set_hblank io false
evented io VBlankStart = vblank_started (set_hblank io false)
evented io FrameStart = frame_started (set_hblank io false)

-- a frame starts
abbrev pub is_frame : Event → Bool
is_frame Nothing = false
is_frame HBlankStart = false
is_frame NormalLine = false
is_frame VBlankStart = false
is_frame FrameStart = true

-- buttons from pad words, event, automatic joypad
unfoldable pub settled : Io → ℕ → ℕ → Event → ℕ → Io
settled io pad1 pad2 event bitcycles = auto_step (evented (pressed io pad1 pad2) event) bitcycles

-- the timer's hit sets TIMEUP unless the IRQ mode is Disabled
unfoldable pub timed : Io → Bool → Io
timed io hit = pick hit (pick (irq_disabled io.enables.nmitimen) io (set_timeup_flag io true)) io
