-- A way other than 0: what it says, and that the cycle's call is accepted there.
use Prim.Native.Nat.{ℕ, ◌<◌}
use mathlib.Core.Bool.{Bool, true, false, not, ◌&&◌, ◌||◌, and-eq-true_iff}
use mathlib.Core.List.{List}
use mathlib.Core.Path.{◌≡◌, refl, sym, ◌∙◌}
use native.Mathlib.Omega.{arith}
use borrow.Author.Tests.{eqb-true, not-true}
use lib.Dec.{eqb, leb, ltb}
use lib.ListN.{length}
use Rattle.common.specs.{Pick.pick, Width.Bytes}
use Rattle.asbytes.specs.Machine.{head_of, broken, machine_of, bench_of}
use Rattle.asbytes.specs.Places.{machine_size, slot_at, count_at, length_at, sum_at}
use Rattle.bench.specs.Calls.{desk, lent_of, cycle_call, cycle_done, cycle_refused}
use Rattle.ring.specs.Refusal.{banks_off, record_off, rom_off, lent_number, also_of, cycle_number}
use Rattle.ring.specs.Slots.{bench}
use Rattle.ring.specs.declared.Bench.{Bench}
use Rattle.decode.proofs.Accepted.{machine-ok}
use Rattle.layout.specs.Layout.{capacity}
use Rattle.machine.specs.Cycle.{cycled}
use Rattle.machine.specs.declared.event.Event.TheVariants.{Nothing}
use Rattle.ranges.specs.{Entry.entry_ok, Tests.all}
use Rattle.ranges.proofs.Tests.{Every, every}
use Rattle.way.specs.Seen.{seen}
use Rattle.way.specs.Way.{calm_tests, waiting, due_tests, trip_tests, turn_by, kind_of, lent_tests, plain_tests, way_of}
use Rattle.way.proofs.Ready.{Ready, machine_in, clock_off, seen_same}

-- ---- the call

-- the machine with its counts and its sum
abbrev pub bench_in : List ℕ → Bench
bench_in s = bench (machine_in s) (slot_at s) (count_at s) (length_at s) (sum_at s)

module _ (s : List ℕ) (r : Ready s) where
  bench-is : bench_of s ≡ bench_in s
  unfolding bench_of machine_of
  bench-is =
      let none = r.calm.1.1.1.0 in
      λ i. bench (pick (r.ok i && none i) (machine_in s) (broken (machine_in s))) (slot_at s) (count_at s) (length_at s) (sum_at s)

  module _ (rom l h en : List ℕ) (lent : Every (lent_tests (length l) (length h) (length en) (length rom) (length_at s) (slot_at s) (count_at s))) where
    lent-zero : lent_number (bench_in s) (length l) (length h) (length en) (length rom) ≡ 0
    unfolding lent_number
    lent-zero =
        let a = not-true (banks_off (length l) (length h)) lent.0 in
        let c = not-true (record_off (length en) (length_at s)) lent.1.0 in
        let d = not-true (rom_off (length rom)) lent.1.1.0 in
        let f = not-true (leb (capacity (length_at s)) (slot_at s)) lent.1.1.1.0 in
        let g = not-true (ltb (capacity (length_at s)) (count_at s)) lent.1.1.1.1.0 in
        let k = machine-ok (head_of s) r.ok in
        λ i. pick (a i) 1 (pick (c i) 2 (pick (d i) 3 (pick (not (k i) || f i || g i) 4 0)))

    number-zero : cycle_number (lent_of (desk (bench_in s) l h en) (length rom)) (bench_in s) 0 ≡ 0
    unfolding cycle_number
    number-zero = λ i. pick (clock_off s r i) (also_of (lent-zero i) 7) (lent-zero i)

    made : cycle_call rom (desk (bench_in s) l h en) 0 false false ≡ cycle_done (desk (bench_in s) l h en) (cycled rom (machine_in s) l h Nothing false false)
    unfolding cycle_call
    made =
        let d = desk (bench_in s) l h en in
        λ i. pick (eqb (number-zero i) 0) (cycle_done d (cycled rom (machine_in s) l h Nothing false false)) (cycle_refused d (number-zero i))

    -- an accepted cycle with no event
    pub call-is : (event : ℕ) (line timer : Bool) → Every (plain_tests event line timer)
        → cycle_call rom (desk (bench_of s) l h en) event line timer ≡ cycle_done (desk (bench_in s) l h en) (cycled rom (machine_in s) l h Nothing false false)
    call-is event line timer plain =
        let ev : event ≡ 0 = eqb-true event 0 plain.0 in
        let li = not-true line plain.1.0 in
        let ti = not-true timer plain.1.1.0 in
        (λ i. cycle_call rom (desk (bench-is i) l h en) (ev i) (li i) (ti i)) ∙ made

-- ---- the way

-- a choice that is not 0 was made, and of what
picked : (a : Bool) (x n : ℕ) → 0 < n → pick a x 0 ≡ n → a ≡ true
picked true x n h q = refl
picked false x n h q = absurd (omega (arith, h, q))

given : (a : Bool) (x n : ℕ) → 0 < n → pick a x 0 ≡ n → x ≡ n
given true x n h q = q
given false x n h q = absurd (omega (arith, h, q))

-- of the turns waiting is 1, and a byte moved 2
abbrev turn : Bool → Bool → ℕ
turn w t = pick w 1 (pick t 2 0)

waits_one : (w t : Bool) → turn w t ≡ 1 → w ≡ true
waits_one true t q = refl
waits_one false true q = absurd (omega (arith, q))
waits_one false false q = absurd (omega (arith, q))

moves-two : (w t : Bool) → turn w t ≡ 2 → t ≡ true
moves-two true t q = absurd (omega (arith, q))
moves-two false true q = refl
moves-two false false q = absurd (omega (arith, q))

-- what a way other than 0 says
pub record Goes (s : List ℕ) (low high room rom event : ℕ) (line timer : Bool) (n : ℕ) : Type 0 where
  pub ready : Ready s
  pub plain : Every (plain_tests event line timer)
  pub lent : Every (lent_tests low high room rom (length_at s) (slot_at s) (count_at s))
  pub turn : turn_by (seen (head_of s)) ≡ n

module _ (s : List ℕ) (fit : Bytes s) (low high room rom event : ℕ) (line timer : Bool) where
  goes : (n : ℕ) → 0 < n → way_of s low high room rom event line timer ≡ n → Goes s low high room rom event line timer n
  unfolding way_of kind_of
  goes n pos q =
      let e = head_of s in
      let p = all (plain_tests event line timer) in
      let r = all (lent_tests low high room rom (length_at s) (slot_at s) (count_at s)) in
      let c = all (calm_tests (seen s)) in
      let inner = pick (p && r) (kind_of s) 0 in
      let held = pick (entry_ok e) (turn_by (seen s)) 0 in
      let long = eqb-true (length s) machine_size (picked (eqb (length s) machine_size) inner n pos q) in
      let first = given (eqb (length s) machine_size) inner n pos q in
      let tests = (and-eq-true_iff p r).0 (picked (p && r) (kind_of s) n pos first) in
      let kind = given (p && r) (kind_of s) n pos first in
      let sound = given c held n pos kind in
      record {
        ready = record {
          long = long;
          fit = fit;
          ok = picked (entry_ok e) (turn_by (seen s)) n pos sound;
          calm = every (calm_tests (seen e)) (sym (λ i. all (calm_tests (seen_same s long i))) ∙ picked c held n pos kind);
        };
        plain = every (plain_tests event line timer) tests.0;
        lent = every (lent_tests low high room rom (length_at s) (slot_at s) (count_at s)) tests.1;
        turn = sym (λ i. turn_by (seen_same s long i)) ∙ given (entry_ok e) (turn_by (seen s)) n pos sound;
      }

  -- 1: the unit waits, or has nothing to do
  pub waits : way_of s low high room rom event line timer ≡ 1 → Goes s low high room rom event line timer 1 × (waiting (seen (head_of s)) ≡ true)
  unfolding turn_by
  waits q =
      let g = goes 1 (omega arith) q in
      let x = seen (head_of s) in
      (g, waits_one (waiting x) (all (due_tests x) && all (trip_tests x)) g.turn)

  -- 2: it moves a byte between memory and a port
  pub moves : way_of s low high room rom event line timer ≡ 2
      → Goes s low high room rom event line timer 2 × (Every (due_tests (seen (head_of s))) × Every (trip_tests (seen (head_of s))))
  unfolding turn_by
  moves q =
      let g = goes 2 (omega arith) q in
      let x = seen (head_of s) in
      let tests = (and-eq-true_iff (all (due_tests x)) (all (trip_tests x))).0 (moves-two (waiting x) (all (due_tests x) && all (trip_tests x)) g.turn) in
      (g, (every (due_tests x) tests.0, every (trip_tests x) tests.1))
