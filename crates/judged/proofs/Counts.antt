-- Invented counts are ruled out: kept and next slot are tied to the entries, the log to the accesses made, the old bytes of the entry
-- to the bytes overwritten.
use Prim.Native.Nat.{ℕ, ◌+◌, ◌-◌, ◌≤◌, ◌<◌, min}
use mathlib.Core.Bool.{Bool, true}
use mathlib.Core.List.{List}
use mathlib.Core.Logic.{◌≢◌}
use mathlib.Core.Path.{◌≡◌, ap, ◌∙◌}
use lib.ListN.{length}
use Rattle.bench.specs.Calls.{Desk, lent_of, event_of, CycleOut, cycle_done, cycle_call, ReadOut, read_call, WriteOut, write_call, PlainOut, pad_call, plug_call, answer_call, back_call}
use Rattle.ring.specs.Slots.{after, before, noted}
use Rattle.ring.specs.declared.Bench.{Bench}
use Rattle.bus.specs.Access.{Log, no_access}
use Rattle.common.proofs.FillLaws.{Filled}
use Rattle.entry.specs.Entry.{decode_at}
use Rattle.bench.proofs.Accepted.{cycle-accepted, read-accepted, write-accepted, pad-accepted, plug-accepted, answer-accepted, back-accepted}
use Rattle.layout.specs.Layout.{capacity}
use Rattle.machine.proofs.Adds.{cycle-recorded}
use Rattle.machine.specs.Cycle.{Turned, cycled}
use Rattle.state.specs.declared.Machine.{Machine}
use Rattle.wram.specs.Olds.{Olds}

-- the counts beside the machine after one more entry
pub record Counted (d : Desk) (b : Bench) : Type 0 where
  pub kept : b.kept ≡ min (d.bench.kept + 1) (capacity d.bench.length)
  pub slot : b.slot ≡ after (capacity d.bench.length) d.bench.slot
  pub length : b.length ≡ d.bench.length

counted : (d : Desk) (next : Machine) (olds : Olds) (sum : ℕ) {b : Bench} → b ≡ (noted d.bench d.entries next olds sum).bench → Counted d b
unfolding noted
counted d next olds sum p = record { kept = λ i. (p i).kept; slot = λ i. (p i).slot; length = λ i. (p i).length }

-- the accesses that a cycle made: those of the rules, at most eleven, unused places zero
pub record Accesses (t : Turned) (log : Log) : Type 0 where
  pub made : log ≡ t.after.world.core.log
  pub most : log.count ≤ 11
  pub filled : Filled no_access 11 log.count log.items

module _ (rom : List ℕ) (d : Desk) (p : lent_of d (length rom) ≡ 0) where
  module _ (event : ℕ) (line timer : Bool) (q : event ≤ 4) (c : d.bench.machine.board.clock < 18446744073709551615) {o : CycleOut}
      (k : o ≡ cycle_call rom d event line timer) where
    abbrev turned : Turned
    turned = cycled rom d.bench.machine d.ram.low d.ram.high (event_of event) line timer

    done : o ≡ cycle_done d turned
    done = k ∙ cycle-accepted rom d p event line timer q c

    pub cycle-counted : Counted d o.desk.bench
    cycle-counted = counted d _ _ _ (ap (λ (o : CycleOut). o.desk.bench) done)

    pub cycle-accesses : Accesses turned o.log
    cycle-accesses =
        let made : o.log ≡ turned.after.world.core.log = ap (λ (o : CycleOut). o.log) done in
        let x = cycle-recorded rom d.bench.machine d.ram.low d.ram.high (event_of event) line timer in
        record { made = made; most = rw made x.log-most; filled = rw made x.log }

  pub read-counted : (bank addr : ℕ) {o : ReadOut} → o ≡ read_call rom d bank addr → Counted d o.desk.bench
  read-counted bank addr k = counted d _ _ _ (ap (λ (o : ReadOut). o.desk.bench) (k ∙ read-accepted rom d p bank addr))

  pub write-counted : (bank addr byte : ℕ) {o : WriteOut} → o ≡ write_call rom d bank addr byte → Counted d o.desk.bench
  write-counted bank addr byte k = counted d _ _ _ (ap (λ (o : WriteOut). o.desk.bench) (k ∙ write-accepted rom d p bank addr byte))

  pub pad-counted : (port word : ℕ) → port ≤ 1 → {o : PlainOut} → o ≡ pad_call rom d port word → Counted d o.desk.bench
  pad-counted port word q k = counted d _ _ _ (ap (λ (o : PlainOut). o.desk.bench) (k ∙ pad-accepted rom d p port word q))

  pub plug-counted : (port : ℕ) (on : Bool) → port ≤ 1 → {o : PlainOut} → o ≡ plug_call rom d port on → Counted d o.desk.bench
  plug-counted port on q k = counted d _ _ _ (ap (λ (o : PlainOut). o.desk.bench) (k ∙ plug-accepted rom d p port on q))

  pub answer-counted : (addr byte : ℕ) → 0x2134 ≤ addr → addr ≤ 0x2143 → {o : PlainOut} → o ≡ answer_call rom d addr byte → Counted d o.desk.bench
  answer-counted addr byte q s k = counted d _ _ _ (ap (λ (o : PlainOut). o.desk.bench) (k ∙ answer-accepted rom d p addr byte q s))

-- the counts after one entry less
pub record Uncounted (d : Desk) (b : Bench) : Type 0 where
  pub kept : b.kept ≡ d.bench.kept - 1
  pub slot : b.slot ≡ before (capacity d.bench.length) d.bench.slot
  pub length : b.length ≡ d.bench.length

pub back-counted : (d : Desk) → lent_of d 0 ≡ 0 → d.bench.kept ≢ 0 → (decode_at d.entries (before (capacity d.bench.length) d.bench.slot)).ok ≡ true
    → {o : PlainOut} → o ≡ back_call d → Uncounted d o.desk.bench
back-counted d p q s k =
    let x = k ∙ back-accepted d p q s in record { kept = λ i. (x i).desk.bench.kept; slot = λ i. (x i).desk.bench.slot; length = λ i. (x i).desk.bench.length }
