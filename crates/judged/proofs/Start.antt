-- The desk that the rejected cores are tried on is sound, so nothing of it is refused; and there are bytes of the right sizes.
use Prim.Native.Nat.{ℕ, ◌≤◌}
use mathlib.Core.Bool.{true}
use mathlib.Core.List.{List}
use mathlib.Core.Path.{◌≡◌}
use native.Mathlib.Omega.{arith}
use borrow.Author.Tests.{le-ltb}
use lib.ListN.{length, replicate, length-replicate}
use Rattle.bench.specs.Calls.{lent_of}
use Rattle.ring.specs.Refusal.{lent_number}
use Rattle.judged.specs.Tried.{Sizes, start}
use Rattle.machine.proofs.{FitLaws.power_on-fits, Ranges.power_on-ok}
use Rattle.machine.specs.PowerOn.{power_on_machine}
use Rattle.ranges.proofs.MachineLaws.{passes}
use Rattle.ranges.specs.Machine.{machine_ok}
use Rattle.state.specs.Fit.{FitMachine}

-- so many bytes
pub some_bytes : (n : ℕ) → (l : List ℕ) × (length l ≡ n)
some_bytes n = (replicate n 0, length-replicate n 0)

pub start-ok : machine_ok (power_on_machine 264) ≡ true
start-ok = passes (power_on_machine 264) (power_on-ok 264 (omega arith) (omega arith))

module _ {l h e : List ℕ} (s : Sizes l h e) where
  pub start-lent : (rom : List ℕ) → length rom ≤ 4194304 → lent_of (start l h e) (length rom) ≡ 0
  unfolding lent_number
  start-lent rom q = rw (s.low, s.high, s.entries, le-ltb 4194304 (length rom) q, start-ok)

-- the machine fits its types
pub start_fits : FitMachine (power_on_machine 264)
start_fits = power_on-fits 264 (omega arith)
