-- The whole transfer, over the public calls.
use Prim.Native.Nat.{ℕ, zero, suc, ◌+◌, ◌≤◌, ◌<◌, ◌^◌}
use mathlib.Core.Bool.{false}
use mathlib.Core.List.{List, ◌++◌}
use mathlib.Core.Path.{◌≡◌, refl, ap, subst⁻¹, ◌∙◌}
use native.Mathlib.Omega.{arith}
use lib.ListN.{length}
use Rattle.bench.proofs.Accepted.{cycle-accepted}
use Rattle.bench.specs.Calls.{Desk, lent_of, CycleOut, cycle_done}
use Rattle.bus.specs.Access.{accesses_of}
use Rattle.machine.specs.Cycle.{cycled}
use Rattle.machine.specs.Plain.{Ran, begin, next, plain}
use Rattle.machine.specs.declared.event.Event.TheVariants.{Nothing}
use Rattle.rewind.proofs.Calls.{Stands, lent-stands, op-stands}
use Rattle.rewind.proofs.Lent.{stands-lent}
use Rattle.rewind.specs.Rules.{State, cycle, obeyed}
use Rattle.rewind.specs.Run.{TypedDesk, state_of}
use Rattle.ring.specs.Slots.{noted}
use Rattle.state.specs.declared.Machine.{Machine}
use Rattle.loads.proofs.Whole.{whole-transfer}
use Rattle.loads.specs.Calls.{asked, calls, answered}
use Rattle.loads.specs.Load.{channel_at, holds}
use Rattle.loads.specs.Promise.{Ready, LoadedByCalls, WholeTransferCalled}

-- the state of plain cycles
abbrev state_in : Ran → State
state_in s = record { machine = s.machine; ram = s.ram }

module _ (rom : List ℕ) (d : Desk) (typed : TypedDesk rom d) (lent : lent_of d (length rom) ≡ 0) where
  abbrev s : Ran
  s = begin d.bench.machine d.ram

  abbrev len : ℕ
  len = length d.entries

  abbrev clock : ℕ
  clock = d.bench.machine.board.clock

  -- what n accepted calls leave
  record Along (n : ℕ) : Type 0 where
    stands : Stands len (calls rom n d)
    state : state_of (calls rom n d) ≡ state_in (plain rom n s)
    clocked : (plain rom n s).machine.board.clock ≡ clock + n
    made : answered rom n d ≡ (plain rom n s).made

  -- the call behind them is accepted
  own : (n : ℕ) → clock + n + 1 < 2 ^ 64 → Along n
      → let x = calls rom n d in asked rom x ≡ cycle_done x (cycled rom x.bench.machine x.ram.low x.ram.high Nothing false false)
  own n h a =
      let x = calls rom n d in
      let g = stands-lent rom d typed lent in
      let now : x.bench.machine.board.clock ≡ clock + n = ap (λ (y : State). y.machine.board.clock) a.state ∙ a.clocked in
      cycle-accepted rom x (lent-stands len (length rom) x g.some g.whole g.most a.stands) 0 false false (omega arith) (omega (arith, now, h))

  -- and answers the next cycle
  accepts : (n : ℕ) → clock + n + 1 < 2 ^ 64 → Along n → asked rom (calls rom n d) ≡ cycle_done (calls rom n d) (next rom (plain rom n s))
  accepts n h a =
      own n h a
      ∙ ap (λ (y : State). cycle_done (calls rom n d) (cycled rom y.machine y.ram.low y.ram.high Nothing false false)) a.state

  along : (n : ℕ) → clock + n < 2 ^ 64 → Along n
  unfolding plain calls answered noted obeyed cycled
  along zero h = record { stands = (stands-lent rom d typed lent).stands; state = refl; clocked = omega arith; made = refl }
  along (suc n) h =
      let a = along n (omega (arith, h)) in
      let x = calls rom n d in
      let e = accepts n (omega (arith, h)) a in
      record {
        stands = subst⁻¹ (Stands len) (ap (λ (o : CycleOut). o.desk) (own n (omega (arith, h)) a)) (op-stands rom typed.rom-bytes len x a.stands (cycle 0 false false) (omega arith));
        state = ap (λ (o : CycleOut). state_of o.desk) e;
        clocked = omega (arith, a.clocked, h);
        made = λ i. a.made i ++ accesses_of (e i).log;
      }

  module _ (ready : Ready d.bench.machine) where
    abbrev n : ℕ
    n = holds d.bench.machine

    -- all calls of the formula, and the one after them
    soon : (i : ℕ) → i ≤ n → asked rom (calls rom i d) ≡ cycle_done (calls rom i d) (next rom (plain rom i s))
    soon i h = accepts i (omega (arith, h, ready.clock)) (along i (omega (arith, h, ready.clock)))

    loaded : LoadedByCalls rom d
    loaded =
        let w = whole-transfer rom d.bench.machine d.ram typed.machine ready in
        let a = along n (omega (arith, ready.clock)) in
        let end : (calls rom n d).bench.machine ≡ (plain rom n s).machine = ap (λ (y : State). y.machine) a.state in
        record {
          accepted = λ i h. ap (λ (o : CycleOut). o.number) (soon i h);
          answers =
              record {
                each = λ i h. ap (λ (o : CycleOut). o.held) (soon i (omega (arith, h))) ∙ w.each i h;
                then = ap (λ (o : CycleOut). o.held) (soon n (omega arith)) ∙ w.then;
                eight = ap (λ (m : Machine). length m.io.channels) end ∙ w.eight;
                channels = λ ch l. ap (λ (m : Machine). channel_at m.io.channels ch) end ∙ w.channels ch l;
                enable = ap (λ (m : Machine). m.io.enables.mdmaen) end ∙ w.enable;
                unit = ap (λ (m : Machine). m.dma) end ∙ w.unit;
                bytes = w.bytes;
                number = w.number;
                accesses = a.made ∙ w.accesses;
              };
          machine = λ i h. ap (λ (y : State). y.machine) (along i (omega (arith, h, ready.clock))).state;
          ram = λ i h. ap (λ (y : State). y.ram) (along i (omega (arith, h, ready.clock))).state;
        }

-- the request's sentence
pub whole_transfer_called : WholeTransferCalled
whole_transfer_called = loaded
