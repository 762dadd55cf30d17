-- A core that works on the first call and acts the rest is ruled out: in any run of cycles every single call moves the clock by one,
-- whatever events it is given, so no call after the first can answer without doing the work.
use Prim.Native.Nat.{ℕ, zero, suc, ◌+◌, ◌≤◌, ◌<◌, ◌^◌}
use mathlib.Core.Bool.{Bool}
use mathlib.Core.List.{List}
use mathlib.Core.Logic.{◌≢◌}
use mathlib.Core.Path.{◌≡◌, refl, ap, subst⁻¹, ◌∙◌}
use native.Mathlib.Omega.{arith}
use lib.ListN.{length}
use Rattle.bench.specs.Calls.{Desk, event_of, CycleOut, cycle_done}
use Rattle.ring.specs.Slots.{noted}
use Rattle.bench.proofs.Accepted.{cycle-accepted}
use Rattle.judged.specs.Tried.{two_slots, Sizes, start, Run}
use Rattle.machine.proofs.{FitLaws.power_on-fits, Ranges.power_on-ok}
use Rattle.machine.specs.Cycle.{Turned, cycled}
use Rattle.rewind.proofs.Calls.{SoundDesk, lent-stands, op-keeps}
use Rattle.rewind.specs.Rules.{cycle, obeyed}
use Rattle.common.specs.Width.{Bytes}

-- a desk that no operation is refused on, with a record of two slots
abbrev pub Ready : Desk → Type 0
Ready d = SoundDesk two_slots d

abbrev clock_of : Desk → ℕ
clock_of d = d.bench.machine.board.clock

pub start-ready : (l h e : List ℕ) → Sizes l h e → Bytes l → Bytes h → Ready (start l h e)
start-ready l h e s f g = record {
  stands =
      record {
        good =
            record {
              fits = power_on-fits 264 (omega arith);
              ranges = power_on-ok 264 (omega arith) (omega arith);
              low-bytes = f;
              low-length = s.low;
              high-bytes = g;
              high-length = s.high;
            };
        long = s.entries;
        fresh = refl;
        slot_in = omega arith;
        kept_in = omega arith;
      };
  summed = refl;
}

module _ (rom : List ℕ) (f : Bytes rom) (short : length rom ≤ 4194304) where
  module _ (event : ℕ) (line timer : Bool) (d : Desk) where
    abbrev turned : Turned
    turned = cycled rom d.bench.machine d.ram.low d.ram.high (event_of event) line timer

    cycle-ready : event < 256 → Ready d → Ready (cycle_done d turned).desk
    unfolding obeyed
    cycle-ready t r = op-keeps rom f two_slots d r (cycle event line timer) t

    cycle-clock : clock_of d + 1 < 2 ^ 64 → clock_of (cycle_done d turned).desk ≡ clock_of d + 1
    unfolding noted cycled
    cycle-clock q = omega arith

  -- ---- any run of cycles

  module _ (event : ℕ → ℕ) (line timer : ℕ → Bool) (d : ℕ → Desk) (run : Run rom event line timer d) (known : (n : ℕ) → event n ≤ 4) (first : Ready (d 0)) where
    step : (n : ℕ) → Ready (d n) → clock_of (d n) + 1 < 2 ^ 64 → Ready (d (suc n)) × (clock_of (d (suc n)) ≡ clock_of (d n) + 1)
    step n r q =
        let e = run n ∙ ap (λ (o : CycleOut). o.desk) (cycle-accepted rom (d n) (lent-stands two_slots (length rom) (d n) (omega arith) refl short r.stands) (event n) (line n) (timer n) (known n) (omega arith)) in
        (subst⁻¹ Ready e (cycle-ready (event n) (line n) (timer n) (d n) (omega (arith, known n)) r), ap clock_of e ∙ cycle-clock (event n) (line n) (timer n) (d n) q)

    -- after n cycles the clock stands n higher, and the next is accepted too
    pub run-clock : (n : ℕ) → clock_of (d 0) + n < 2 ^ 64 → Ready (d n) × (clock_of (d n) ≡ clock_of (d 0) + n)
    run-clock zero q = (first, omega arith)
    run-clock (suc n) q =
        let ih = run-clock n (omega arith) in
        let x = step n ih.0 (omega (arith, ih.1)) in
        (x.0, omega (arith, x.1, ih.1))

    -- no call, the first or any later one, leaves things as they were
    pub never_acts : (n : ℕ) → clock_of (d 0) + suc n < 2 ^ 64 → d (suc n) ≢ d n
    never_acts n q z =
        let a = (run-clock n (omega arith)).1 in
        let b = (run-clock (suc n) q).1 in
        omega (arith, a, b, ap clock_of z)
