-- A cycle that waits, made on the machine's bytes where they stand, is the cycle's own definition.
use Rattle.std.proofs.Common.{◌≡◌, ℕ, ◌+◌, ◌-◌, ◌%◌, ◌^◌, ◌≤◌, min, Bool, true, false, not, ◌&&◌, eqb, ltb, List, [], ◌++◌, length, take, drop, sym, refl, ap, ◌∙◌, append_assoc, arith, length-append, le-leb}
use lib.Bits.{bit_and}
use lib.Seq.{take-append-le, drop-append-le}
use Rattle.common.specs.Width.{Bytes}
use Rattle.asbytes.specs.{Answer.answered, Crossed.crossed, Crossed.cycle_crossed}
use Rattle.asbytes.specs.Machine.{head_of, bench_of, counted, summed, stored, saved}
use Rattle.asbytes.specs.Places.{slot_at, count_at, length_at, sum_at}
use Rattle.asbytes.proofs.{Beside.sum_fits, Beside.counted-sum, Head.same, Head.put_is, Head.whole}
use Rattle.bench.specs.Calls.{desk, cycle_call, cycle_done}
use Rattle.ring.specs.Slots.{after, bench, noted}
use Rattle.bus.specs.Access.{no_log, opened}
use Rattle.decode.specs.Decode.{io_at, dma_at, board_at, machine_at}
use Rattle.entry.specs.{Entry.written, Slot.write_slot}
use Rattle.fields.specs.{Little.le, Patch.patched}
use Rattle.hdma.specs.Engine.{with_wait}
use Rattle.image.specs.{Encode.encode, Groups.flag}
use Rattle.image.proofs.Size.{entry-size}
use Rattle.layout.specs.Layout as the
use Rattle.layout.specs.Layout.{image_size, entry_size, capacity}
use Rattle.machine.specs.Cycle.{Turned, cycled}
use Rattle.machine.specs.declared.event.Event.TheVariants.{Nothing}
use Rattle.machine.proofs.Quiet.{left, quiet-cycle}
use Rattle.state.specs.declared.Machine.{Machine}
use Rattle.way.specs.Seen.{wait_at, clock_at, nmi_at, seen}
use Rattle.way.specs.Way.{waiting, way_of}
use Rattle.way.proofs.Call.{bench_in, call-is, waits}
use Rattle.way.proofs.Ready.{Ready, machine_in, seen_same, bytes-are, idle, one, two, runs, rests}
use Rattle.wram.proofs.SumLaws.{follow-none}
use Rattle.wram.specs.Olds.{Olds}
use Rattle.wram.specs.{Banks.Banks, Banks.banks, Olds.no_olds, Sum.follows}
use Rattle.inplace.specs.Rest.{at, ticking, counting, edge_at, rested}

-- ---- bytes laid over the head of a list

head-laid : (e r x : List ℕ) (at : ℕ) → at + length x ≤ length e → patched (e ++ r) at x ≡ patched e at x ++ r
head-laid e r x at h =
    let room : at + length x ≤ length (e ++ r) = omega (arith, h, length-append e r) in
    let near : at ≤ length e = omega (arith, h) in
    rw (le-leb (at + length x) (length (e ++ r)) room, le-leb (at + length x) (length e) h)
    ((λ i. take-append-le at e r near i ++ x ++ drop-append-le (at + length x) e r h i)
    ∙ sym (append_assoc (take at e ++ x) (drop (at + length x) e) r))

-- an entry that ticks is the entry of the machine that ticked
abbrev next : Machine → Bool → ℕ → ℕ → Machine
next m nmi wait clock =
    record {
      io = m.io;
      dma = with_wait m.dma wait;
      board = record { pad1 = m.board.pad1; pad2 = m.board.pad2; nmi = nmi; bitcycles = m.board.bitcycles; clock = clock };
    }

module _ (o : Olds) where
  tick-first : (m : Machine) (nmi : Bool) → patched (encode m o) (at the.nmi) (flag nmi) ≡ encode (next m nmi m.dma.wait m.board.clock) o
  unfolding encode
  tick-first m nmi = refl

  tick-second : (m : Machine) (wait : ℕ) → patched (encode m o) (at the.wait) (le 4 wait) ≡ encode (next m m.board.nmi wait m.board.clock) o
  unfolding encode
  tick-second m wait = refl

  tick-third : (m : Machine) (clock : ℕ) → patched (encode m o) (at the.clock) (le 8 clock) ≡ encode (next m m.board.nmi m.dma.wait clock) o
  unfolding encode
  tick-third m clock = refl

  -- and so it is at the head of more bytes
  laid-at : (m n : Machine) (r x : List ℕ) (k : ℕ) → k + length x ≤ image_size → patched (encode m o) k x ≡ encode n o
      → patched (encode m o ++ r) k x ≡ encode n o ++ r
  laid-at m n r x k h q = head-laid (encode m o) r x k (rw (entry-size m o) h) ∙ ap (λ (l : List ℕ). l ++ r) q

  tick-head : (m : Machine) (r : List ℕ) (nmi : Bool) (wait clock : ℕ)
      → ticking (encode m o ++ r) nmi wait clock ≡ encode (next m nmi (wait - 1) ((clock + 1) % 2 ^ 64)) o ++ r
  unfolding ticking
  tick-head m r nmi wait clock =
      let c = (clock + 1) % 2 ^ 64 in
      let w = wait - 1 in
      let m1 = next m nmi m.dma.wait m.board.clock in
      let m2 = next m nmi w m.board.clock in
      let first = laid-at m m1 r (flag nmi) (at the.nmi) (omega arith) (tick-first m nmi) in
      let second = laid-at m1 m2 r (le 4 w) (at the.wait) (omega arith) (tick-second m1 w) in
      let third = laid-at m2 (next m nmi w c) r (le 8 c) (at the.clock) (omega arith) (tick-third m2 c) in
      ap (λ (l : List ℕ). patched (patched l (at the.wait) (le 4 w)) (at the.clock) (le 8 c)) first
      ∙ ap (λ (l : List ℕ). patched l (at the.clock) (le 8 c)) second ∙ third

-- ---- the cycle

module _ (s : List ℕ) (r : Ready s) (still : waiting (seen (head_of s)) ≡ true) where
  abbrev m : Machine
  m = machine_in s

  abbrev e : List ℕ
  e = head_of s

  -- the machine that ticked, laid over the bytes; the banks are as they were, and so is the sum
  stored_is : (nmi : Bool) (wait clock slot kept room : ℕ) (ram : Banks)
      → stored (bench (next m nmi (wait - 1) ((clock + 1) % 2 ^ 64)) (after (capacity room) slot) (min (kept + 1) (capacity room)) room (follows (sum_at s) ram ram)) s
      ≡ counting (ticking s nmi wait clock) slot kept room
  unfolding stored counting
  stored_is nmi wait clock slot kept room ram =
      let n = next m nmi (wait - 1) ((clock + 1) % 2 ^ 64) in
      let e = encode n no_olds in
      let a = after (capacity room) slot in
      let b = min (kept + 1) (capacity room) in
      ap (summed (counted (patched s 0 e) a b room)) (follow-none (sum_at s) ram (sum_fits s r.fit))
      ∙ counted-sum s r.fit e a b room r.long (omega (arith, entry-size n no_olds))
      ∙ ap (λ (l : List ℕ). counted l (after (capacity room) slot) (min (kept + 1) (capacity room)) room)
      (put_is s r.long (encode n no_olds) (entry-size n no_olds)
      ∙ sym (tick-head no_olds m (drop image_size s) nmi wait clock)
      ∙ ap (λ (l : List ℕ). ticking l nmi wait clock) (ap (λ (l : List ℕ). l ++ drop image_size s) (bytes-are s r) ∙ whole s r.long))

  module _ (rom l h en out : List ℕ) where
    abbrev t : Turned
    t = left rom m l h (idle s r) (one s r) (two s r) (runs s r) (rests s r still)

    ends : cycled rom m l h Nothing false false ≡ t
    ends = quiet-cycle rom m l h (idle s r) (one s r) (two s r) (runs s r) (rests s r still)

    nmi-same : nmi_at s ≡ nmi_at e
    nmi-same =
        let a = same s r.long the.nmitimen (omega arith) in
        let b = same s r.long the.rdnmi (omega arith) in
        λ i. not (eqb (bit_and (a i) 0x80) 0) && not (eqb (bit_and (b i) 0x80) 0)

    crossed-is : rested s l h en out ≡ cycle_crossed s out (cycle_done (desk (bench_in s) l h en) t)
    unfolding rested saved noted written opened machine_at board_at io_at dma_at
    crossed-is =
        let see = seen_same s r.long in
        let was = same s r.long the.nmi (omega arith) in
        (λ i.
        crossed 0 (counting (ticking s (nmi-same i) (see i).wait (see i).clock) (slot_at s) (count_at s) (length_at s)) l h
        (write_slot entry_size (slot_at s) (sym (bytes-are s r) i) en)
        (answered (ltb 0 (see i).wait) (nmi-same i && not (eqb (was i) 1)) no_log out))
        ∙ (λ i.
        crossed 0 (sym (stored_is (nmi_at e) (wait_at e) (clock_at e) (slot_at s) (count_at s) (length_at s) (banks l h)) i) l h
        (write_slot entry_size (slot_at s) (encode m no_olds) en) (answered (ltb 0 (wait_at e)) (edge_at e) no_log out))

-- ---- the law

pub rest-by : (rom s l h en out : List ℕ) (event : ℕ) (line timer : Bool) → Bytes s
    → way_of s (length l) (length h) (length en) (length rom) event line timer ≡ 1
    → rested s l h en out ≡ cycle_crossed s out (cycle_call rom (desk (bench_of s) l h en) event line timer)
rest-by rom s l h en out event line timer fit way =
    let q = waits s fit (length l) (length h) (length en) (length rom) event line timer way in
    let g = q.0 in
    crossed-is s g.ready q.1 rom l h en out
    ∙ ap (λ (t : Turned). cycle_crossed s out (cycle_done (desk (bench_in s) l h en) t)) (sym (ends s g.ready q.1 rom l h en out))
    ∙ ap (cycle_crossed s out) (sym (call-is s g.ready rom l h en g.lent event line timer g.plain))

-- the same of what the code leaves
pub rest-crossed : (rom s l h en out : List ℕ) (event : ℕ) (line timer : Bool) {way : ℕ} {m e o : List ℕ} → Bytes s
    → way ≡ way_of s (length l) (length h) (length en) (length rom) event line timer → way ≡ 1 → crossed 0 m [] [] e o ≡ rested s [] [] en out
    → crossed 0 m l h e o ≡ cycle_crossed s out (cycle_call rom (desk (bench_of s) l h en) event line timer)
unfolding rested
rest-crossed rom s l h en out event line timer fit p q r =
    (λ i. crossed 0 (r i).machine l h (r i).entries (r i).out) ∙ rest-by rom s l h en out event line timer fit (sym p ∙ q)
