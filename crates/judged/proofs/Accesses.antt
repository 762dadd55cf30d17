-- A cycle in which a transfer runs makes two accesses, a read and a write: a core that tells of none, or of more, is ruled out.
use Prim.Native.Nat.{ℕ}
use mathlib.Core.Bool.{true, false}
use mathlib.Core.List.{List, []}
use mathlib.Core.Path.{◌≡◌, refl, ap, ◌∙◌}
use native.Mathlib.Omega.{arith}
use lib.ListN.{replicate}
use Rattle.bench.specs.Calls.{Desk, desk, lent_of, event_of, CycleOut, cycle_call}
use Rattle.ring.specs.{Refusal.lent_number, Slots.bench}
use Rattle.bus.specs.Access.{push_access, opened, io_written, register_read}
use Rattle.bus.specs.{Route.system_route, Route.route_of, World.read_at, World.write_at}
use Rattle.bus.specs.View.{channel_of, with_channel, mdmaen_of, with_mdmaen, hdmaen_of}
use Rattle.dma.specs.Cycle.{start_pending, due_of, acted, act_by, updated}
use Rattle.dma.specs.General.{after_byte, step_from, dma_step}
use Rattle.state.specs.Progress.{progress_at}
use Rattle.state.specs.Hdma.{no_hdma}
use Rattle.bench.proofs.Accepted.{cycle-accepted}
use Rattle.judged.specs.Tried.{two_slots, Sizes}
use Rattle.machine.specs.Cycle.{armed, cycled}
use Rattle.machine.specs.Event.{pressed, evented, settled, timed}
use Rattle.ranges.specs.Machine.{machine_ok}
use Rattle.registers.specs.PowerOn.{power_on}
use Rattle.signals.specs.AutoJoypad.{auto_step}
use Rattle.state.specs.declared.{DmaState.TheVariants.Dma as General, Machine.Machine}
use Rattle.transfer.specs.Byte.{trip_of, moved, step_a1t, transfer_byte}
use Rattle.transfer.specs.Pattern.{offset_of}

-- power-on registers, and channel 0 in the middle of a general transfer
unfoldable pub moving : Machine
moving = record {
  io = power_on;
  dma = record { state = General; wait = 0; running = true; progress = progress_at 0 0; pending = false; init = false; queue = 0; channels = replicate 8 no_hdma };
  board = record { pad1 = 0; pad2 = 0; nmi = false; bitcycles = 264; clock = 0 };
}

moving-ok : machine_ok moving ≡ true
unfolding moving machine_ok power_on
moving-ok = refl

abbrev pub busy : List ℕ → List ℕ → List ℕ → Desk
busy l h e = desk (bench moving 0 0 two_slots 0) l h e

two : (l h : List ℕ) → (cycled [] moving l h (event_of 0) false false).after.world.core.log.count ≡ 2
unfolding moving power_on cycled updated start_pending due_of acted act_by armed mdmaen_of hdmaen_of timed settled evented pressed opened auto_step dma_step step_from transfer_byte moved trip_of step_a1t after_byte with_channel with_mdmaen channel_of read_at write_at push_access io_written register_read route_of system_route offset_of
two l h = refl

pub cycle_two_accesses : (l h e : List ℕ) → Sizes l h e → {o : CycleOut} → o ≡ cycle_call [] (busy l h e) 0 false false
    → o.log.count ≡ 2
unfolding lent_number moving
cycle_two_accesses l h e s k =
    let lent : lent_of (busy l h e) 0 ≡ 0 = rw (s.low, s.high, s.entries, moving-ok) in
    ap (λ (o : CycleOut). o.log.count) (k ∙ cycle-accepted [] (busy l h e) lent 0 false false (omega arith) (omega arith)) ∙ two l h
