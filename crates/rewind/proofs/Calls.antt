-- The public calls on a sound desk: what an operation leaves and what a back step leaves, and the numbers that can come.
use Prim.Native.Nat.{ℕ, suc, ◌%◌, ◌≤◌, ◌<◌}
use mathlib.Core.Bool.{true}
use mathlib.Core.List.{List}
use mathlib.Core.Path.{◌≡◌, refl, sym, ap, ◌∙◌}
use native.Mathlib.Omega.{arith}
use borrow.Author.Tests.{eqb-true, lt-leb, le-ltb, eq-eqb, ne_eqb}
use lib.Dec.{eqb, ltb}
use lib.ListN.{length}
use Rattle.bench.specs.Calls.{Desk, lent_of, recorded, event_of, CycleOut, cycle_done, cycle_refused, cycle_call, world_of, cost_at, bused, ReadOut, read_done, read_call, WriteOut, write_call, Hosting, hosted, on_banks, pad_call, plug_call, answer_call, restored, back_call}
use Rattle.bench.specs.Host.{pad_set, plug_set, answer_set}
use Rattle.ring.specs.Refusal.{address_off, lent_number, cycle_number, port_number, address_number, back_number}
use Rattle.ring.specs.Slots.{before, noting, noted}
use Rattle.bus.specs.World.{read_at, write_at}
use Rattle.common.proofs.TableLaws.{pick_elim, pick_case, pick-map}
use Rattle.common.specs.{Pick.pick, Width.Bytes}
use Rattle.entry.proofs.Entries.{length-written}
use Rattle.entry.specs.Entry.{decode_at}
use Rattle.entry.specs.declared.Decoded.{Decoded}
use Rattle.layout.specs.Layout.{entry_size, capacity}
use Rattle.machine.specs.Cycle.{cycled}
use Rattle.ranges.proofs.MachineLaws.{passes}
use Rattle.rewind.proofs.{Good.Good, Good.lawful, Slots.after_lt}
use Rattle.rewind.specs.Promise.{Sound}
use Rattle.rewind.specs.Rules.{Op, cycle, read, write, pad, plug, answer, Typed, Done, changed, obeyed}
use Rattle.rewind.specs.Run.{operation, back, Reply, called, state_of}
use Rattle.state.specs.declared.Machine.{Machine}
use Rattle.wram.proofs.SumLaws.{follow-none, follow-true, sum_below}
use Rattle.wram.specs.{Banks.Banks, Olds.no_olds, Sum.ram_sum, Sum.follows}

-- what the table still refuses where everything lent is sound: 5, 6 and 7
abbrev pub number_of : Op → Machine → ℕ
number_of (cycle event line timer) m = pick (ltb 4 event) 5 (pick (eqb m.board.clock 18446744073709551615) 7 0)
number_of (read bank addr) m = 0
number_of (write bank addr byte) m = 0
number_of (pad port w) m = pick (ltb 1 port) 6 0
number_of (plug port on) m = pick (ltb 1 port) 6 0
number_of (answer addr byte) m = pick (address_off addr) 6 0

-- an operation's reply: with number 0 what the rules give and one entry
abbrev pub reply : ℕ → Desk → Done → Reply
reply n d x = pick (eqb n 0) (record { number = 0; desk = recorded d x.state.machine x.olds x.state.ram }) (record { number = n; desk = d })

-- a desk with a record of so many bytes, whose machine, counts and banks are not refused
pub record Stands (len : ℕ) (d : Desk) : Type 0 where
  pub good : Good (state_of d)
  pub long : length d.entries ≡ len
  pub fresh : d.bench.length ≡ len
  pub slot_in : d.bench.slot < capacity len
  pub kept_in : d.bench.kept ≤ capacity len

-- and with the sum that a run leaves
pub record SoundDesk (len : ℕ) (d : Desk) : Type 0 where
  pub stands : Stands len d
  pub summed : d.bench.sum ≡ ram_sum d.ram

-- nothing lent is refused
pub lent-stands : (len rom : ℕ) (d : Desk) → 0 < len → len % entry_size ≡ 0 → rom ≤ 4194304 → Stands len d → lent_of d rom ≡ 0
unfolding lent_number
lent-stands len rom d pos whole h s =
    let g = s.good in
    rw (
      g.low-length,
      g.high-length,
      s.long,
      s.fresh,
      ne_eqb len 0 (λ e. omega arith),
      eq-eqb (len % entry_size) 0 whole,
      eq-eqb len len refl,
      le-ltb 4194304 rom h,
      passes d.bench.machine g.ranges,
      lt-leb (capacity len) d.bench.slot s.slot_in,
      le-ltb (capacity len) d.bench.kept s.kept_in,
    )

pub lent-sound : (len rom : ℕ) (d : Desk) → 0 < len → len % entry_size ≡ 0 → rom ≤ 4194304 → SoundDesk len d → lent_of d rom ≡ 0
lent-sound len rom d pos whole h s = lent-stands len rom d pos whole h s.stands

-- the number and the desk of each answer
abbrev cycle-reply : CycleOut → Reply
cycle-reply r = record { number = r.number; desk = r.desk }

abbrev read-reply : ReadOut → Reply
read-reply r = record { number = r.number; desk = r.desk }

abbrev write-reply : WriteOut → Reply
write-reply r = record { number = r.number; desk = r.desk }

abbrev host-reply : Banks → Hosting → Reply
host-reply ram x = let r = on_banks ram x in record { number = r.number; desk = r.desk }

module _ (rom : List ℕ) (d : Desk) (sound : lent_of d (length rom) ≡ 0) (summed : d.bench.sum ≡ ram_sum d.ram) where
  -- the host leaves work RAM and its sum
  same_sum : d.bench.sum ≡ follows d.bench.sum d.ram d.ram
  same_sum = sym (follow-none d.bench.sum d.ram (rw summed (sum_below d.ram)))

  host_called : (n : ℕ) (m : Machine) → host-reply d.ram (hosted d.bench d.entries n m) ≡ reply n d (changed (state_of d) m)
  unfolding hosted
  host_called n m =
      pick-map (host-reply d.ram) (eqb n 0) (record { number = 0; noted = noted d.bench d.entries m no_olds d.bench.sum }) (record { number = n; noted = noting d.bench d.entries })
      ∙ (λ i. pick (eqb n 0) (host-reply d.ram (record { number = 0; noted = noted d.bench d.entries m no_olds (same_sum i) })) (record { number = n; desk = d }))

  -- an operation on a sound desk
  pub op-called : (o : Op) → called rom (operation o) d ≡ reply (number_of o d.bench.machine) d (obeyed rom o (state_of d))
  unfolding called obeyed cycle_call read_call write_call pad_call plug_call answer_call cycle_number port_number address_number
  op-called (cycle event line timer) =
      let n = cycle_number (lent_of d (length rom)) d.bench event in
      let t = cycled rom d.bench.machine d.ram.low d.ram.high (event_of event) line timer in
      pick-map cycle-reply (eqb n 0) (cycle_done d t) (cycle_refused d n)
      ∙ ap (λ (k : ℕ). reply (cycle_number k d.bench event) d (obeyed rom (cycle event line timer) (state_of d))) sound
  op-called (read bank addr) =
      let n = lent_of d (length rom) in
      pick-map read-reply (eqb n 0) (read_done d (read_at rom (world_of d) bank addr) (cost_at d bank addr)) (record { number = n; byte = 0; cost = 0; desk = d })
      ∙ ap (λ (k : ℕ). reply k d (obeyed rom (read bank addr) (state_of d))) sound
  op-called (write bank addr byte) =
      let n = lent_of d (length rom) in
      pick-map write-reply (eqb n 0) (record { number = 0; cost = cost_at d bank addr; desk = bused d (write_at (world_of d) bank addr byte) }) (record { number = n; cost = 0; desk = d })
      ∙ ap (λ (k : ℕ). reply k d (obeyed rom (write bank addr byte) (state_of d))) sound
  op-called (pad port w) =
      host_called (port_number (lent_of d (length rom)) port) (pad_set d.bench.machine port w)
      ∙ ap (λ (k : ℕ). reply (port_number k port) d (obeyed rom (pad port w) (state_of d))) sound
  op-called (plug port on) =
      host_called (port_number (lent_of d (length rom)) port) (plug_set d.bench.machine port on)
      ∙ ap (λ (k : ℕ). reply (port_number k port) d (obeyed rom (plug port on) (state_of d))) sound
  op-called (answer addr byte) =
      host_called (address_number (lent_of d (length rom)) addr) (answer_set d.bench.machine addr byte)
      ∙ ap (λ (k : ℕ). reply (address_number k addr) d (obeyed rom (answer addr byte) (state_of d))) sound

-- an accepted operation leaves a desk on which nothing is refused
pub op-stands : (rom : List ℕ) → Bytes rom → (len : ℕ) (d : Desk) → Stands len d → (o : Op) → Typed o → Stands len (reply 0 d (obeyed rom o (state_of d))).desk
unfolding noted
op-stands rom bytes len d s o t =
    let c : capacity d.bench.length ≡ capacity len = ap capacity s.fresh in
    record {
      good = (lawful rom bytes o t (state_of d) s.good).good;
      long = length-written d.entries d.bench.slot d.bench.machine (obeyed rom o (state_of d)).olds ∙ s.long;
      fresh = s.fresh;
      slot_in = rw c (after_lt (capacity len) d.bench.slot s.slot_in);
      kept_in = rw c (omega arith);
    }

-- and a sound one from a sound one
pub op-keeps : (rom : List ℕ) → Bytes rom → (len : ℕ) (d : Desk) → SoundDesk len d → (o : Op) → Typed o → SoundDesk len (reply 0 d (obeyed rom o (state_of d))).desk
unfolding noted
op-keeps rom bytes len d s o t =
    let ram = (obeyed rom o (state_of d)).state.ram in
    record {
      stands = op-stands rom bytes len d s.stands o t;
      summed = ap (λ (k : ℕ). follows k d.ram ram) s.summed ∙ follow-true d.ram ram;
    }

module _ (rom : List ℕ) (d : Desk) (sound : lent_of d 0 ≡ 0) where
  -- a back step with nothing kept
  pub back_none : d.bench.kept ≡ 0 → called rom back d ≡ record { number = 8; desk = d }
  unfolding called back_call back_number
  back_none e = rw (sound, e)

  -- and with something kept, where the newest entry is one
  pub back_some : (k : ℕ) (e : Decoded) → d.bench.kept ≡ suc k → decode_at d.entries (before (capacity d.bench.length) d.bench.slot) ≡ e → e.ok ≡ true
      → called rom back d ≡ record { number = 0; desk = restored d e (before (capacity d.bench.length) d.bench.slot) }
  unfolding called back_call back_number
  back_some k e q n ok = rw (sound, n, ok, q, ne_eqb (suc k) 0 (λ z. omega arith))

-- ---- the numbers

none : Sound 0
none = record { no1 = omega arith; no2 = omega arith; no3 = omega arith; no4 = omega arith; no9 = omega arith }

own : (n : ℕ) → 5 ≤ n → n ≤ 8 → Sound n
own n h k = record { no1 = omega arith; no2 = omega arith; no3 = omega arith; no4 = omega arith; no9 = omega arith }

sound-number : (o : Op) (m : Machine) → Sound (number_of o m)
sound-number (cycle event line timer) m =
    pick_elim Sound (ltb 4 event) (own 5 (omega arith) (omega arith)) (pick_elim Sound (eqb m.board.clock 18446744073709551615) (own 7 (omega arith) (omega arith)) none)
sound-number (read bank addr) m = none
sound-number (write bank addr byte) m = none
sound-number (pad port w) m = pick_elim Sound (ltb 1 port) (own 6 (omega arith) (omega arith)) none
sound-number (plug port on) m = pick_elim Sound (ltb 1 port) (own 6 (omega arith) (omega arith)) none
sound-number (answer addr byte) m = pick_elim Sound (address_off addr) (own 6 (omega arith) (omega arith)) none

-- an operation's reply has its number
pub reply-number : (n : ℕ) (d : Desk) (x : Done) → (reply n d x).number ≡ n
reply-number n d x = pick_case (λ (r : Reply). r.number ≡ n) (eqb n 0) (λ e. sym (eqb-true n 0 e)) (λ e. refl)

pub op-sound : (o : Op) (m : Machine) (d : Desk) (x : Done) → Sound (reply (number_of o m) d x).number
op-sound o m d x = rw (reply-number (number_of o m) d x) (sound-number o m)

pub back-sound : (kept : ℕ) → Sound (pick (eqb kept 0) 8 0)
back-sound kept = pick_elim Sound (eqb kept 0) (own 8 (omega arith) (omega arith)) none
