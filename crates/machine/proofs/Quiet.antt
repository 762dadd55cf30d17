-- What a cycle does with no event, line due or timer's hit; where nothing happens to the registers before the DMA unit's turn; and where that
-- only waits or is idle.
use Rattle.std.proofs.Common.{◌≡◌, ℕ, ◌-◌, Bool, true, false, ◌||◌, eqb, ltb, List, refl, ap, ◌∙◌}
use mathlib.Core.Bool.{or-false}
use lib.Bits.{bit_and}
use Rattle.common.specs.Pick.{pick}
use Rattle.bus.specs.{Access.opened, View.mdmaen_of, View.hdmaen_of, World.world}
use Rattle.dma.specs.Cycle.{Held, cycle_from, updated}
use Rattle.dma.proofs.Quiet.{start-same, calm}
use Rattle.hdma.specs.Engine.{at, with_wait, with_pending, with_init}
use Rattle.registers.specs.Groups.{with_io-pads, with_pads-port1, with_pads-port2}
use Rattle.registers.specs.declared.{Io.Io, pads.Pads.Pads}
use Rattle.registers.specs.declared.pads.AutoJoypad.TheVariants as auto
use Rattle.signals.specs.{AutoJoypad.step_from, AutoJoypad.auto_step, Flags.nmi_line}
use Rattle.state.specs.declared.{Dma.Dma, Machine.Machine}
use Rattle.state.specs.declared.DmaState.TheVariants as state
use Rattle.machine.specs.Cycle.{armed, rising, ticked, Turned, settled_of, turn_of, cycled}
use Rattle.machine.specs.Event.{pressed, evented, settled, timed}
use Rattle.machine.specs.declared.event.Event.TheVariants.{Nothing}

-- no line due and no frame's start: the unit is as it was
pub armed-same : (d : Dma) (mask : ℕ) → armed d mask false false ≡ d
unfolding armed
armed-same d mask = go (eqb mask 0)
  where
    go : (b : Bool) → pick b d (with_init (with_pending d (d.pending || false || false)) (d.init || false)) ≡ d
    go true = refl
    go false = λ i. with_init (with_pending d ((or-false (d.pending || false) ∙ or-false d.pending) i)) (or-false d.init i)

-- with no event, line due or timer's hit the unit's turn comes behind buttons and automatic joypad
pub plain-cycle : (rom : List ℕ) (m : Machine) (l h : List ℕ)
    → cycled rom m l h Nothing false false ≡ turn_of (updated rom (at (world (opened (settled_of m Nothing)) l h) m.dma) m.board.clock) m (nmi_line (settled_of m Nothing))
unfolding cycled timed
plain-cycle rom m l h =
    let k = opened (settled_of m Nothing) in
    ap (λ (d : Dma). turn_of (updated rom (at (world k l h) d) m.board.clock) m (nmi_line (settled_of m Nothing))) (armed-same m.dma (hdmaen_of k))

module _ (rom : List ℕ) (m : Machine) (l h : List ℕ) (idle : m.io.pads.auto ≡ auto.Idle)
    (one : bit_and m.board.pad1 (65535 - 15) ≡ m.io.pads.port1.buttons)
    (two : bit_and m.board.pad2 (65535 - 15) ≡ m.io.pads.port2.buttons)
    (runs : (m.dma.running || eqb m.io.enables.mdmaen 0) ≡ true) where
  abbrev pads : Pads
  pads = m.io.pads

  pressed-same : pressed m.io m.board.pad1 m.board.pad2 ≡ m.io
  unfolding pressed
  pressed-same = λ i.
      with_io-pads m.io
      (with_pads-port2 (with_pads-port1 pads (record { connected = pads.port1.connected; latch = pads.port1.latch; buttons = one i; shift = pads.port1.shift }))
      (record { connected = pads.port2.connected; latch = pads.port2.latch; buttons = two i; shift = pads.port2.shift }))

  settled_same : settled m.io m.board.pad1 m.board.pad2 Nothing m.board.bitcycles ≡ m.io
  unfolding settled evented auto_step
  settled_same =
      ap (λ (io : Io). step_from io.pads.auto io m.board.bitcycles) pressed-same
      ∙ (λ i. step_from (idle i) m.io m.board.bitcycles)

  -- all is left to the unit, from the machine as it stands
  pub unit-cycle : cycled rom m l h Nothing false false ≡ turn_of (cycle_from rom (at (world (opened m.io) l h) m.dma)) m (nmi_line m.io)
  unfolding updated opened mdmaen_of
  unit-cycle =
      let k = opened m.io in
      plain-cycle rom m l h
      ∙ ap (λ (io : Io). turn_of (updated rom (at (world (opened io) l h) m.dma) m.board.clock) m (nmi_line io)) settled_same
      ∙ ap (λ (d : Dma). turn_of (cycle_from rom (at (world k l h) d)) m (nmi_line m.io)) (start-same m.dma (mdmaen_of k) m.board.clock runs)

  module _ (rests : ltb 0 m.dma.wait ≡ false → (m.dma.pending ≡ false) × (m.dma.state ≡ state.Idle)) where
    -- what the cycle leaves
    abbrev pub left : Turned
    left =
        record {
          after = at (world (opened m.io) l h) (with_wait m.dma (m.dma.wait - 1));
          board = ticked m.board (nmi_line m.io);
          held = ltb 0 m.dma.wait;
          edge = rising m.board.nmi (nmi_line m.io);
        }

    pub quiet-cycle : cycled rom m l h Nothing false false ≡ left
    quiet-cycle = unit-cycle ∙ ap (λ (x : Held). turn_of x m (nmi_line m.io)) (calm rom (world (opened m.io) l h) m.dma rests)
