-- The conditions of the sentence are met: a machine that is ready, and desks with it on which nothing lent is refused.
use Prim.Native.Nat.{ℕ, ◌%◌, ◌≤◌, ◌<◌}
use mathlib.Core.List.{List}
use mathlib.Core.Path.{◌≡◌, refl, ◌∙◌}
use native.Mathlib.Omega.{arith}
use lib.ListN.{length, length-set}
use Rattle.bench.specs.Calls.{lent_of}
use Rattle.common.proofs.AllLaws.{all_set}
use Rattle.common.specs.Width.{Bytes}
use Rattle.layout.specs.Layout.{entry_size}
use Rattle.machine.proofs.{FitLaws.power_on-fits, Ranges.power_on-ok}
use Rattle.machine.specs.PowerOn.{power_on_dma, power_on_machine}
use Rattle.registers.specs.Fit.{FitChannel}
use Rattle.registers.specs.PowerOn.{power_on}
use Rattle.rewind.proofs.Calls.{lent-stands}
use Rattle.rewind.specs.Run.{TypedDesk}
use Rattle.state.proofs.Ranges.{MachineOk}
use Rattle.state.specs.Fit.{FitMachine}
use Rattle.loads.specs.Example.{sender, example, example_desk}
use Rattle.loads.specs.Load.{selected_in, cycles_of, holds}
use Rattle.loads.specs.Promise.{Ready}

-- 8 of alignment, 9, and 8 + 8 x 256
pub example-holds : holds example ≡ 2073
unfolding power_on_machine power_on selected_in cycles_of
example-holds = refl

pub example-ready : Ready example
unfolding power_on_machine power_on_dma power_on selected_in cycles_of
example-ready = record {
  idle = refl;
  wait_0 = refl;
  not-running = refl;
  no_progress = refl;
  none-pending = refl;
  hdmaen_0 = refl;
  some = λ e. omega (arith, e);
  clock = omega (arith, example-holds);
  clear = (λ i h. refl, tt);
}

sender-fits : FitChannel sender
sender-fits = omega arith

pub example-fits : FitMachine example
example-fits =
    let f = power_on-fits 264 (omega arith) in
    let io = f.io in
    let e = io.enables in
    let cs = (power_on_machine 264).io.channels in
    record {
      io =
          record {
            wmadd = io.wmadd;
            math = io.math;
            times = io.times;
            enables = record { nmitimen = e.nmitimen; wrio = e.wrio; mdmaen = omega arith; hdmaen = e.hdmaen; memsel = e.memsel };
            flags = io.flags;
            joys = io.joys;
            pads = io.pads;
            channels-length = length-set cs 0 sender ∙ io.channels-length;
            channels = all_set FitChannel cs 0 sender io.channels sender-fits;
            ports = io.ports;
            openbus = io.openbus;
          };
      dma = f.dma;
      board = f.board;
    }

example-ok : MachineOk example
example-ok = let k = power_on-ok 264 (omega arith) (omega arith) in record { pads = k.pads; dma = k.dma; board = k.board }

-- whatever the banks hold, on a record of whole entries
module _ (rom low high entries : List ℕ) (r : Bytes rom) (l : Bytes low) (h : Bytes high) where
  pub example-typed : TypedDesk rom (example_desk low high entries)
  example-typed = record { rom-bytes = r; machine = example-fits; low = l; high = h }

  pub example-lent : length rom ≤ 4194304 → length low ≡ 65536 → length high ≡ 65536 → 0 < length entries → length entries % entry_size ≡ 0
      → lent_of (example_desk low high entries) (length rom) ≡ 0
  example-lent most p q some whole =
      lent-stands (length entries) (length rom) (example_desk low high entries) some whole most
      (record {
        good = record { fits = example-fits; ranges = example-ok; low-bytes = l; low-length = p; high-bytes = h; high-length = q };
        long = refl;
        fresh = refl;
        slot_in = omega (arith, some, whole);
        kept_in = omega arith;
      })
