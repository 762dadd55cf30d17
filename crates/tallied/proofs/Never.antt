-- No run of at most 8,192 rows is refused by 13: a call adds at most 55 to any total, and a row is at most 65,535 calls.
use Prim.Native.Nat.{ℕ, suc, ◌+◌, ◌-◌, ◌*◌, ◌%◌, ◌^◌, ◌≤◌, ◌<◌, min}
use mathlib.Core.Bool.{Bool, false}
use mathlib.Core.List.{List, [], ◌∷◌}
use mathlib.Core.Logic.{◌≢◌}
use mathlib.Core.Path.{◌≡◌}
use native.Mathlib.Omega.{arith}
use borrow.Author.Tests.{le-ltb}
use lib.Dec.{eqb, ltb}
use lib.ListN.{length, get_or, replicate}
use Rattle.common.proofs.TableLaws.{pick_elim}
use Rattle.bench.specs.Calls.{Desk, lent_of, CycleOut, cycle_call, ReadOut, read_call, WriteOut, write_call, Hosting, hosted, pad_call, plug_call, answer_call, PlainOut, back_call}
use Rattle.benchfile.specs.Row.{row_at}
use Rattle.benchfile.specs.declared.row.Row.{Row}
use Rattle.benchfile.specs.declared.row.Row.TheVariants.{Cycles, Read, Write, Pad, Plug, Answer as Reply, Back, Broken}
use Rattle.bus.specs.Access.{Log, accesses_of}
use Rattle.bus.specs.declared.access.Access.{Access}
use Rattle.entry.specs.Entry.{decode_at}
use Rattle.layout.specs.Layout.{capacity}
use Rattle.ring.specs.Refusal.{banks_off, record_off, rom_off, bench_off, address_off, also_of, lent_number, cycle_number, port_number, address_number, back_number}
use Rattle.ring.specs.Slots.{before}
use Rattle.ring.specs.declared.Bench.{Bench}
use Rattle.script.specs.Row.{row_run}
use Rattle.script.specs.Run.{first_of}
use Rattle.state.specs.declared.DmaState.{DmaState}
use Rattle.state.specs.declared.Machine.{Machine}
use Rattle.tally.proofs.Writes.{length-firsts, bool-one}
use Rattle.tally.specs.Figure.{writes}
use Rattle.tally.specs.File.{first}
use Rattle.tally.specs.Run.{Tallying, count_by, accepted_by, refused_by, call_tallied, limit_of, rows_tallied}
use Rattle.tally.specs.Share.{made_by, share_of, more, passes, passing, raised, count_call}
use Rattle.tally.specs.declared.share.Share.{Share}
use Rattle.touch.specs.Who.{who_of}
use Rattle.touch.specs.declared.who.Who.{Who}
use Rattle.touch.specs.declared.who.Who.TheVariants.{Cpu, Dma as General, Hdma}
use Rattle.walk.specs.Call.{Calling, call_of}
use Rattle.tallied.proofs.Flat.{Under, set-under}
use Rattle.tallied.proofs.Typed.{all-zero}
use Rattle.tallied.proofs.Walk.{Kept, rows-keep}

-- ---- a call's own refusals

-- a number that is no more than 11
abbrev Few : ℕ → Type 0
Few k = k ≤ 11

lent-few : (d : Desk) (rom : ℕ) → Few (lent_of d rom)
unfolding lent_number
lent-few d rom =
    let b = d.bench in
    pick_elim Few (banks_off (length d.ram.low) (length d.ram.high)) {x = 1} (omega arith)
    (pick_elim Few (record_off (length d.entries) b.length) {x = 2} (omega arith)
    (pick_elim Few (rom_off rom) {x = 3} (omega arith) (pick_elim Few (bench_off b) {x = 4} {y = 0} (omega arith) (omega arith))))

module _ (lent : ℕ) (h : Few lent) where
  also-few : (k : ℕ) → Few k → Few (also_of lent k)
  also-few k q = pick_elim Few (eqb lent 0) q h

  cycle-few : (b : Bench) (event : ℕ) → Few (cycle_number lent b event)
  unfolding cycle_number
  cycle-few b event =
      pick_elim Few (ltb 4 event) (also-few 5 (omega arith)) (pick_elim Few (eqb b.machine.board.clock 18446744073709551615) (also-few 7 (omega arith)) h)

  port-few : (port : ℕ) → Few (port_number lent port)
  unfolding port_number
  port-few port = pick_elim Few (ltb 1 port) (also-few 6 (omega arith)) h

  address-few : (addr : ℕ) → Few (address_number lent addr)
  unfolding address_number
  address-few addr = pick_elim Few (address_off addr) (also-few 6 (omega arith)) h

  back-few : (kept : ℕ) (ok : Bool) → Few (back_number lent kept ok)
  unfolding back_number
  back-few kept ok = pick_elim Few (eqb kept 0) (also-few 8 (omega arith)) (pick_elim Few ok h (also-few 9 (omega arith)))

host-few : (b : Bench) (e : List ℕ) (k : ℕ) (m : Machine) → Few k → Few (hosted b e k m).number
unfolding hosted
host-few b e k m h = pick_elim (λ (x : Hosting). Few x.number) (eqb k 0) (omega arith) h

module _ (rom : List ℕ) (i : ℕ) (d : Desk) where
  abbrev lent : ℕ
  lent = lent_of d (length rom)

  abbrev low : Few lent
  low = lent-few d (length rom)

  call-few : (says : Row) → Few (call_of rom i says d).answer.number
  unfolding call_of row_run cycle_call read_call write_call pad_call plug_call answer_call back_call
  call-few (Cycles count event due timer) =
      pick_elim (λ (o : CycleOut). Few o.number) (eqb (cycle_number lent d.bench (first_of i event)) 0) (omega arith) (cycle-few lent low d.bench (first_of i event))
  call-few (Read bank addr) = pick_elim (λ (o : ReadOut). Few o.number) (eqb lent 0) (omega arith) low
  call-few (Write bank addr byte) = pick_elim (λ (o : WriteOut). Few o.number) (eqb lent 0) (omega arith) low
  call-few (Pad port word) = host-few d.bench d.entries (port_number lent port) _ (port-few lent low port)
  call-few (Plug port on) = host-few d.bench d.entries (port_number lent port) _ (port-few lent low port)
  call-few (Reply addr byte) = host-few d.bench d.entries (address_number lent addr) _ (address-few lent low addr)
  call-few (Back count) =
      let e = decode_at d.entries (before (capacity d.bench.length) d.bench.slot) in
      pick_elim (λ (o : PlainOut). Few o.number) (eqb (back_number (lent_of d 0) d.bench.kept e.ok) 0) (omega arith)
      (back-few (lent_of d 0) (lent-few d 0) d.bench.kept e.ok)
  call-few Broken = omega arith

-- ---- a share, and the totals with it

writes-most : (l : List Access) → writes l ≤ length l
unfolding writes
writes-most [] = omega arith
writes-most (a ∷ l) = omega (arith, writes-most l, bool-one a.write)

-- a log holds at most eleven accesses, so that no number of a share passes 11
record Small (s : Share) : Type 0 where
  general : Few s.general
  units : Few s.units
  table : Few s.table
  held : Few s.held

share-small : (who : Who) (held : Bool) (after : DmaState) (log : Log) → Small (share_of (made_by who held after log))
unfolding share_of
share-small who held after log = go who
  where
    long : length (accesses_of log) ≤ 11
    long = omega (arith, length-firsts (min log.count 11) log.items)

    wrote : writes (accesses_of log) ≤ 11
    wrote = omega (arith, writes-most (accesses_of log), long)

    go : (who : Who) → Small (share_of (made_by who held after log))
    go Cpu = record { general = omega arith; units = omega arith; table = omega arith; held = omega (arith, bool-one held) }
    go (General c) = record { general = wrote; units = omega arith; table = omega arith; held = omega (arith, bool-one held) }
    go (Hdma c) = record {
      general = omega arith;
      units = pick_elim Few (eqb (writes (accesses_of log)) 0) (omega arith) (omega arith);
      table = omega (arith, long);
      held = omega (arith, bool-one held);
    }

more-under : (b : ℕ) (l : List ℕ) (k x : ℕ) → x ≤ 11 → Under b l → Under (b + 11) (more k x l)
more-under b l k x h u = set-under (b + 11) l k (x + get_or l k 0) (omega (arith, h, u k)) (λ j. omega (arith, u j))

-- a count that is not refused, with no total over b
pub record Low (b number : ℕ) (l : List ℕ) : Type 0 where
  pub never : number ≢ 13
  pub under : Under b l

module _ (b : ℕ) (room : b ≤ 18446744073709551604) (l : List ℕ) (u : Under b l) where
  count_low : (s : Share) → Small s → let c = count_call l s in Low (b + 55) c.number c.totals
  unfolding count_call passing raised
  count_low s L =
      let c = s.channel % 8 in
      let k = s.state % 4 in
      let none : (i x : ℕ) → x ≤ 11 → passes i x l ≡ false = λ i x h. le-ltb (2 ^ 64 - 1) (get_or l i 0 + x) (omega (arith, u i)) in
      let l₁ = more c s.general l in
      let l₂ = more (c + 8) s.units l₁ in
      let l₃ = more (c + 16) s.table l₂ in
      let l₄ = more (k + 24) s.held l₃ in
      let u₁ = more-under b l c s.general L.general u in
      let u₂ = more-under (b + 11) l₁ (c + 8) s.units L.units u₁ in
      let u₃ = more-under (b + 11 + 11) l₂ (c + 16) s.table L.table u₂ in
      let u₄ = more-under (b + 11 + 11 + 11) l₃ (k + 24) s.held L.held u₃ in
      let u₅ = more-under (b + 11 + 11 + 11 + 11) l₄ 28 s.held L.held u₄ in
      rw (none c s.general L.general, none (c + 8) s.units L.units, none (c + 16) s.table L.table, none (k + 24) s.held L.held, none 28 s.held L.held)
      (record { never = λ e. omega (arith, e); under = λ j. omega (arith, u₅ j) })

  counts-low : (says : Row) (d : Desk) (o : Calling) → let c = count_by says d o l in Low (b + 55) c.number c.totals
  counts-low says d o = go says
    where
      same : Low (b + 55) 0 l
      same = record { never = λ e. omega (arith, e); under = λ j. omega (arith, u j) }

      go : (says : Row) → let c = count_by says d o l in Low (b + 55) c.number c.totals
      go (Cycles count event due timer) =
          count_low _ (share-small (who_of d.bench.machine.dma) o.answer.held o.desk.bench.machine.dma.state o.answer.log)
      go (Read bank addr) = same
      go (Write bank addr byte) = same
      go (Pad port word) = same
      go (Plug port on) = same
      go (Reply addr byte) = same
      go (Back count) = same
      go Broken = same

-- ---- a run

-- after r rows and i calls of the next
abbrev pub Never : ℕ → ℕ → Tallying → Type 0
Never r i t = Low (55 * (65536 * r + i)) t.number t.totals

pub never_yet : (d₀ : Desk) (alive : List ℕ) → Never 0 0 (first d₀ alive (replicate 29 0))
never_yet d₀ alive = record { never = λ e. omega (arith, e); under = λ j. omega (arith, all-zero 29 j) }

module _ (rom script limits : List ℕ) (n : ℕ) (small : (r : ℕ) → r < n → limit_of limits r (row_at script r) ≤ 65535) (few : n ≤ 8192) where
  never-step : (r i : ℕ) (t : Tallying) → r < n → i < limit_of limits r (row_at script r) → Never r i t → Never r (suc i) (call_tallied rom r (row_at script r) i t)
  unfolding call_tallied
  never-step r i t h k N =
      let says = row_at script r in
      let o = call_of rom i says t.desk in
      let b = 55 * (65536 * r + i) in
      let c = counts-low b (omega (arith, small r h)) t.totals N.under says t.desk o in
      let up : (number : ℕ) (l : List ℕ) → number ≢ 13 → Under (b + 55) l → Low (55 * (65536 * r + suc i)) number l =
      λ number l z u. record { never = z; under = λ j. omega (arith, u j) } in
      pick_elim (Never r (suc i)) (eqb o.answer.number 0) {x = accepted_by t o r (count_by says t.desk o t.totals)} {y = refused_by t o}
      (up _ _ c.never c.under) (up _ _ (λ e. omega (arith, call-few rom i t.desk says, e)) (λ j. omega (arith, N.under j)))

  pub never-held : Kept rom script limits n Never
  never-held = record {
    step = λ r i t h k z N. never-step r i t h k N;
    stay = λ r i t z N. record { never = N.never; under = λ j. omega (arith, N.under j) };
    begin = λ r t z N. record { never = λ e. omega (arith, e); under = N.under };
    next = λ r t h N. record { never = N.never; under = λ j. omega (arith, small r h, N.under j) };
  }

  run-low : (d₀ : Desk) (alive : List ℕ) → Never n 0 (rows_tallied rom script limits n (first d₀ alive (replicate 29 0)))
  run-low d₀ alive = rows-keep rom script limits n Never never-held (first d₀ alive (replicate 29 0)) (never_yet d₀ alive) n (omega arith)

  pub never_13 : (d₀ : Desk) (alive : List ℕ) → (rows_tallied rom script limits n (first d₀ alive (replicate 29 0))).number ≢ 13
  never_13 d₀ alive = (run-low d₀ alive).never

  -- nor does a total pass 55 * 65,536 * 8,192
  pub never-high : (d₀ : Desk) (alive : List ℕ) → Under 29527900160 (rows_tallied rom script limits n (first d₀ alive (replicate 29 0))).totals
  never-high d₀ alive j = omega (arith, (run-low d₀ alive).under j, few)
