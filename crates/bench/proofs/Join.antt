-- The steps of each call, joined into its definition.
use Prim.Native.Nat.{ℕ, ◌-◌}
use mathlib.Core.Bool.{Bool}
use mathlib.Core.List.{List}
use mathlib.Core.Path.{◌≡◌, refl, ap, ◌∙◌}
use lib.ListN.{length}
use Rattle.bus.proofs.Adds.{read-recorded, write-recorded}
use Rattle.bus.specs.{Access.opened, Route.cost_of}
use Rattle.bus.specs.World.{World, Reading, read_at, write_at}
use Rattle.bus.specs.declared.{access.Core.Core}
use Rattle.entry.specs.Entry.{decode_at}
use Rattle.entry.specs.declared.Decoded.{Decoded}
use Rattle.layout.specs.Layout.{capacity}
use Rattle.machine.proofs.Adds.{cycle-recorded}
use Rattle.machine.specs.Cycle.{Turned, machine_after, cycled}
use Rattle.machine.specs.Lent.{told}
use Rattle.machine.specs.declared.cycle.Turn.{Turn}
use Rattle.machine.specs.declared.event.Event.{Event}
use Rattle.state.specs.declared.Machine.{Machine}
use Rattle.wram.specs.{Banks.Banks, Banks.banks, Olds.put_back, Olds.no_olds, Sum.ram_sum, Sum.follows}
use Rattle.common.specs.Refusal.{refusal_number}
use Rattle.common.specs.declared.refusal.Refusal.{Refusal}
use Rattle.std.specs.Result.{IsErr, IsErrAnd}
use Rattle.std.specs.declared.result.Result.{Result}
use Rattle.std.specs.declared.result.Result.TheVariants.{Ok, Err}
use Rattle.bench.specs.Calls.{Desk, lent_of, event_of, CycleOut, cycle_refused, cycle_call, ReadOut, read_call, WriteOut, write_call, PlainOut, hosted, host_call, back_call, empty_bench, no_bench, FreshOut, fresh_call}
use Rattle.bench.specs.Host.{with_io}
use Rattle.ring.specs.Refusal.{cycle_number, back_number, fresh_number}
use Rattle.ring.proofs.Also.{refuses}
use Rattle.ring.specs.Slots.{before, bench, Noted, noted}
use Rattle.ring.specs.declared.Bench.{Bench}

-- the old bytes lead back to the banks given, so the sum that the code makes of them follows the banks
sum_by : (d : Desk) {was : Banks} {s : ℕ} (ram : Banks) → s ≡ follows d.bench.sum was ram → was ≡ d.ram → s ≡ follows d.bench.sum d.ram ram
sum_by d ram e b = e ∙ ap (λ (x : Banks). follows d.bench.sum x ram) b

-- what `?` hands on is the refusal that came
pub passed : {T : Type 0} (x : Result T Refusal) {r : Refusal} → IsErr x × IsErrAnd x (λ y. y ≡ r) → x ≡ Err r
passed (Ok v) (p, q) = absurd q
passed (Err e) (p, q) = ap Err q

module _ (rom : List ℕ) (d : Desk) {lent : ℕ} (p : lent ≡ lent_of d (length rom)) where
  module _ (event : ℕ) (line timer : Bool) where
    pub cycle-refused : (r : Refusal) → refusal_number r ≡ cycle_number lent d.bench event → cycle_refused d (refusal_number r) ≡ cycle_call rom d event line timer
    unfolding cycle_call
    cycle-refused r q = let z = refuses r in cc

    pub cycle-done : {e : Event} {t : Turned} {k : Turn} {r : Banks} {m : Machine} {s : ℕ} {x : Noted} → 0 ≡ cycle_number lent d.bench event → e ≡ event_of event
        → t ≡ cycled rom d.bench.machine d.ram.low d.ram.high e line timer → k ≡ told t → r ≡ t.after.world.ram → m ≡ machine_after t
        → s ≡ follows d.bench.sum (put_back k.olds r) r
        → x ≡ noted d.bench d.entries m k.olds s
        → ◌≡◌ {A = CycleOut} (record { number = 0; held = k.held; edge = k.edge; log = k.log; desk = record { bench = x.bench; ram = r; entries = x.entries } }) (cycle_call rom d event line timer)
    unfolding cycle_call
    cycle-done {e} {t} {k} {r} z a b f g c s x =
        let back = (cycle-recorded rom d.bench.machine d.ram.low d.ram.high e line timer).back in
        let sum = sum_by d r s ((λ i. put_back (f i).olds (g i)) ∙ ap (λ (t : Turned). put_back t.after.world.core.olds t.after.world.ram) b ∙ back) in
        cc

module _ (rom : List ℕ) (d : Desk) (bank addr : ℕ) where
  pub read-refused : (r : Refusal) → refusal_number r ≡ lent_of d (length rom) → ◌≡◌ {A = ReadOut} (record { number = refusal_number r; byte = 0; cost = 0; desk = d }) (read_call rom d bank addr)
  unfolding read_call
  read-refused r p = let z = refuses r in cc

  pub read_done_lem : {k : Core} {r : Reading} {y : ℕ} {w : World} {m : Machine} {s : ℕ} {x : Noted} {c : ℕ} → 0 ≡ lent_of d (length rom) → k ≡ opened d.bench.machine.io
      → r ≡ read_at rom (record { core = k; ram = d.ram }) bank addr → y ≡ r.byte → w ≡ r.world → m ≡ with_io d.bench.machine w.core.io
      → s ≡ follows d.bench.sum (put_back w.core.olds w.ram) w.ram
      → x ≡ noted d.bench d.entries m w.core.olds s → c ≡ cost_of d.bench.machine.io.enables.memsel bank addr
      → ◌≡◌ {A = ReadOut} (record { number = 0; byte = y; cost = c; desk = record { bench = x.bench; ram = w.ram; entries = x.entries } }) (read_call rom d bank addr)
  unfolding read_call
  read_done_lem {k} {r} {y} {w} z a b g h c s e f =
      let back = (read-recorded rom d.bench.machine.io d.ram.low d.ram.high bank addr).back in
      let is = b ∙ ap (λ (k : Core). read_at rom (record { core = k; ram = d.ram }) bank addr) a in
      let sum = sum_by d w.ram s (ap (λ (v : World). put_back v.core.olds v.ram) h ∙ ap (λ (r : Reading). put_back r.world.core.olds r.world.ram) is ∙ back) in
      cc

  pub write-refused : (byte : ℕ) (r : Refusal) → refusal_number r ≡ lent_of d (length rom) → ◌≡◌ {A = WriteOut} (record { number = refusal_number r; cost = 0; desk = d }) (write_call rom d bank addr byte)
  unfolding write_call
  write-refused byte r p = let z = refuses r in cc

  pub write_done : (byte : ℕ) {k : Core} {w : World} {m : Machine} {s : ℕ} {x : Noted} {c : ℕ} → 0 ≡ lent_of d (length rom) → k ≡ opened d.bench.machine.io
      → w ≡ write_at (record { core = k; ram = d.ram }) bank addr byte → m ≡ with_io d.bench.machine w.core.io
      → s ≡ follows d.bench.sum (put_back w.core.olds w.ram) w.ram
      → x ≡ noted d.bench d.entries m w.core.olds s → c ≡ cost_of d.bench.machine.io.enables.memsel bank addr
      → ◌≡◌ {A = WriteOut} (record { number = 0; cost = c; desk = record { bench = x.bench; ram = w.ram; entries = x.entries } }) (write_call rom d bank addr byte)
  unfolding write_call
  write_done byte {k} {w} z a b c s e f =
      let back = (write-recorded d.bench.machine.io d.ram.low d.ram.high bank addr byte).back in
      let is = b ∙ ap (λ (k : Core). write_at (record { core = k; ram = d.ram }) bank addr byte) a in
      let sum = sum_by d w.ram s (ap (λ (w : World). put_back w.core.olds w.ram) is ∙ back) in
      cc

-- pad, plug and port answer
module _ (d : Desk) {n : ℕ} where
  pub host-refused : (r : Refusal) (next : Machine) → refusal_number r ≡ n → ◌≡◌ {A = PlainOut} (record { number = refusal_number r; desk = d }) (host_call d n next)
  unfolding hosted
  host-refused r next p = rw (← p, refuses r) refl

  pub host-done : {next m : Machine} {x : Noted} → 0 ≡ n → m ≡ next → x ≡ noted d.bench d.entries m no_olds d.bench.sum
      → ◌≡◌ {A = PlainOut} (record { number = 0; desk = record { bench = x.bench; ram = d.ram; entries = x.entries } }) (host_call d n next)
  unfolding hosted
  host-done p q r = cc

module _ (d : Desk) {lent cap slot : ℕ} {e : Decoded} (p : lent ≡ lent_of d 0) (c : cap ≡ capacity d.bench.length) (q : slot ≡ before cap d.bench.slot) (r : e ≡ decode_at d.entries slot) where
  pub back-refused : (x : Refusal) → refusal_number x ≡ back_number lent d.bench.kept e.ok → ◌≡◌ {A = PlainOut} (record { number = refusal_number x; desk = d }) (back_call d)
  unfolding back_call
  back-refused x s = let z = refuses x in cc

  pub back_done : {kept sum : ℕ} {ram : Banks} → 0 ≡ back_number lent d.bench.kept e.ok → kept ≡ d.bench.kept - 1 → sum ≡ follows d.bench.sum d.ram (put_back e.olds d.ram)
      → ram ≡ put_back e.olds d.ram
      → ◌≡◌ {A = PlainOut} (record { number = 0; desk = record { bench = bench e.machine slot kept d.bench.length sum; ram = ram; entries = d.entries } }) (back_call d)
  unfolding back_call
  back_done z a t b = cc

module _ (low high : List ℕ) (room bitcycles : ℕ) where
  pub fresh-refused : (r : Refusal) {b : Bench} → refusal_number r ≡ fresh_number (length low) (length high) room bitcycles → b ≡ no_bench
      → ◌≡◌ {A = FreshOut} (record { number = refusal_number r; bench = b }) (fresh_call low high room bitcycles)
  unfolding fresh_call
  fresh-refused r p q = let z = refuses r in cc

  pub fresh-done : {sum : ℕ} {b : Bench} → 0 ≡ fresh_number (length low) (length high) room bitcycles → sum ≡ ram_sum (banks low high) → b ≡ empty_bench room bitcycles sum
      → ◌≡◌ {A = FreshOut} (record { number = 0; bench = b }) (fresh_call low high room bitcycles)
  unfolding fresh_call
  fresh-done z s q = cc
