-- The machine's bytes that pass the tests of the way: what the machine is that they stand for.
use Prim.Native.Nat.{ℕ, suc, ◌+◌, ◌-◌, ◌%◌, ◌≤◌, ◌<◌}
use mathlib.Core.Bool.{true, false, ◌&&◌, ◌||◌, and-eq-true_iff}
use mathlib.Core.List.{List, [], ◌∷◌}
use mathlib.Core.Path.{◌≡◌, refl, sym, ap, ◌∙◌, subst}
use native.Mathlib.Omega.{arith}
use borrow.Author.Tests.{eqb-true, not-true}
use lib.Bits.{bit_and}
use lib.Dec.{eqb, ltb}
use lib.ListN.{length, get_or}
use lib.Seq.{length-take-le}
use Rattle.common.specs.{Pick.pick, Width.Byte, Width.Bytes}
use Rattle.common.proofs.{AllLaws.all_take, AllLaws.byte_fits, RangeLaws.below-eight}
use Rattle.asbytes.specs.{Machine.head_of, Places.machine_size}
use Rattle.asbytes.proofs.Head.{head-is, same}
use Rattle.decode.specs.Cases.{state_of, progress_of}
use Rattle.decode.specs.Decode.{channel_at, channels_at, io_at, dma_at, board_at, machine_at, olds_at}
use Rattle.decode.proofs.Accepted.{olds-ok, only}
use Rattle.image.specs.Encode.{encode}
use Rattle.layout.specs.Layout as the
use Rattle.layout.specs.Layout.{num, image_size}
use Rattle.ranges.specs.{Entry.entry_ok}
use Rattle.ranges.proofs.Tests.{Every, every}
use Rattle.registers.specs.Channel.{no_channel}
use Rattle.registers.specs.declared.channel.DmaChannel.{DmaChannel}
use Rattle.registers.specs.declared.pads.AutoJoypad.TheVariants as auto
use Rattle.state.specs.Progress.{progress_at}
use Rattle.state.specs.declared.DmaState.TheVariants as state
use Rattle.state.specs.declared.Machine.{Machine}
use Rattle.transfer.specs.{Bits.down, Pattern.offset_of, Pattern.b_address}
use Rattle.wram.specs.Olds.{Olds, no_old, no_olds}
use Rattle.way.specs.Seen.{seen, busy_at, unit_at, das_at}
use Rattle.way.specs.Way.{pressed_tests, calm_tests, waiting, due_tests}

-- ---- what is seen in the bytes is seen in their image

module _ (s : List ℕ) (long : length s ≡ machine_size) where
  abbrev x : List ℕ
  x = head_of s

  -- a field of the channel in progress
  of_channel_lem : (r : the.Register)
      → (the.place (the.register (busy_at s) r)).start + (the.place (the.register (busy_at s) r)).width ≤ image_size
      → num s (the.register (busy_at s) r) ≡ num x (the.register (busy_at x) r)
  of_channel_lem r h = same s long (the.register (busy_at s) r) h ∙ ap (λ (n : ℕ). num x (the.register (n % 8) r)) (same s long the.channel (omega arith))

  pub seen_same : seen s ≡ seen x
  seen_same =
      let dmap = of_channel_lem the.dmap (omega arith) in
      let bbad = of_channel_lem the.bbad (omega arith) in
      let unit = same s long the.unit (omega arith) in
      λ i.
      record {
        auto = same s long the.auto_kind (omega arith) i;
        word1 = same s long the.pad1 (omega arith) i;
        word2 = same s long the.pad2 (omega arith) i;
        buttons1 = same s long (the.buttons 0) (omega arith) i;
        buttons2 = same s long (the.buttons 1) (omega arith) i;
        running = same s long the.running (omega arith) i;
        mdmaen = same s long the.mdmaen (omega arith) i;
        olds = same s long the.old_count (omega arith) i;
        clock = same s long the.clock (omega arith) i;
        wait = same s long the.wait (omega arith) i;
        pending = same s long the.pending (omega arith) i;
        state = same s long the.dma_state (omega arith) i;
        present = same s long the.present (omega arith) i;
        dmap = dmap i;
        a1t = of_channel_lem the.a1t (omega arith) i;
        a1b = of_channel_lem the.a1b (omega arith) i;
        das = of_channel_lem the.das (omega arith) i;
        bside = b_address (bbad i) (offset_of (dmap i) (unit i));
      }

-- ---- the machine

-- the machine that the bytes stand for, where they pass
abbrev pub machine_in : List ℕ → Machine
machine_in s = machine_at (head_of s)

-- so many bytes, in the ranges, and calm
pub record Ready (s : List ℕ) : Type 0 where
  pub long : length s ≡ machine_size
  pub fit : Bytes s
  pub ok : entry_ok (head_of s) ≡ true
  pub calm : Every (calm_tests (seen (head_of s)))

-- every byte that an index reaches is one
pub all-bytes : (l : List ℕ) → ((k : ℕ) → k < length l → get_or l k 0 < 256) → Bytes l
all-bytes [] h = tt {0}
all-bytes (x ∷ l) h = (h 0 (omega arith), all-bytes l (λ k q. h (suc k) (omega (arith, q))))

module _ (s : List ℕ) (r : Ready s) where
  abbrev e : List ℕ
  e = head_of s

  abbrev m : Machine
  m = machine_in s

  image-long : length e ≡ image_size
  image-long = ap length (head-is s r.long) ∙ length-take-le image_size s (omega (arith, r.long))

  each : (k : ℕ) → Byte (get_or e k 0)
  each k = byte_fits e k (subst Bytes (sym (head-is s r.long)) (all_take Byte image_size s r.fit))

  count-zero : num e the.old_count ≡ 0
  count-zero = eqb-true (num e the.old_count) 0 r.calm.1.1.1.0

  no-olds : olds_at e ≡ no_olds
  unfolding olds_at
  no-olds =
      let f = (olds-ok e r.ok each).filled.unused in
      let u : (k : ℕ) → get_or (olds_at e).items k no_old ≡ no_old = λ k. f k (omega (arith, count-zero)) in
      λ i. record { count = count-zero i; items = u 0 i ∷ u 1 i ∷ u 2 i ∷ u 3 i ∷ [] }

  -- the bytes are the image of the machine that they stand for
  pub bytes-are : encode m no_olds ≡ e
  bytes-are = ap (λ (o : Olds). encode m o) (sym no-olds) ∙ only e each image-long r.ok

  -- nothing happens to the registers before the unit's turn
  pub idle : m.io.pads.auto ≡ auto.Idle
  unfolding machine_at io_at
  idle = λ i. pick (r.calm.0 i) auto.Idle (pick (eqb (num e the.auto_kind) 1) (auto.Pending (num e the.auto_countdown)) (auto.Reading (num e the.auto_bits) (num e the.auto_countdown)))

  pub one : bit_and m.board.pad1 (65535 - 15) ≡ m.io.pads.port1.buttons
  unfolding machine_at io_at board_at
  one = eqb-true (bit_and (num e the.pad1) (65535 - 15)) (num e (the.buttons 0)) (every (pressed_tests (seen e)) r.calm.1.0).0

  pub two : bit_and m.board.pad2 (65535 - 15) ≡ m.io.pads.port2.buttons
  unfolding machine_at io_at board_at
  two = eqb-true (bit_and (num e the.pad2) (65535 - 15)) (num e (the.buttons 1)) (every (pressed_tests (seen e)) r.calm.1.0).1.0

  pub runs : (m.dma.running || eqb m.io.enables.mdmaen 0) ≡ true
  unfolding machine_at io_at dma_at
  runs = r.calm.1.1.0

  pub clock_off : eqb m.board.clock 18446744073709551615 ≡ false
  unfolding machine_at board_at
  clock_off = not-true (eqb (num e the.clock) 18446744073709551615) r.calm.1.1.1.1.0

  -- a unit that waits, or is idle with no pass pending
  pub rests : waiting (seen e) ≡ true → ltb 0 m.dma.wait ≡ false → (m.dma.pending ≡ false) × (m.dma.state ≡ state.Idle)
  unfolding machine_at dma_at
  rests waits h =
      let none = eqb (num e the.pending) 0 in
      let still = eqb (num e the.dma_state) 0 in
      let both = (and-eq-true_iff none still).0 ((λ i. sym h i || (none && still)) ∙ waits) in
      (ap (λ (n : ℕ). eqb n 1) (eqb-true (num e the.pending) 0 both.0), ap state_of (eqb-true (num e the.dma_state) 0 both.1))

-- ---- a byte of a general transfer

-- the registers of the channel in progress
abbrev pub channel_in : List ℕ → DmaChannel
channel_in s = get_or (machine_in s).io.channels (busy_at (head_of s)) no_channel

-- a channel of an image
channel_in_lem : (x : List ℕ) (i : ℕ) → i < 8 → get_or (channels_at x) i no_channel ≡ channel_at x i
unfolding channels_at
channel_in_lem x = below-eight (λ i. get_or (channels_at x) i no_channel ≡ channel_at x i) refl refl refl refl refl refl refl refl

pub channel-is : (s : List ℕ) → channel_in s ≡ channel_at (head_of s) (busy_at (head_of s))
unfolding machine_at io_at
channel-is s = channel_in_lem (head_of s) (busy_at (head_of s)) (omega arith)

-- the unit moves a byte of this channel, and not its last
pub record Due (s : List ℕ) : Type 0 where
  pub wait : (machine_in s).dma.wait ≡ 0
  pub pending : (machine_in s).dma.pending ≡ false
  pub state : (machine_in s).dma.state ≡ state.Dma
  pub progress : (machine_in s).dma.progress ≡ progress_at (num (head_of s) the.channel) (unit_at (head_of s))
  pub more : eqb (down 65536 (channel_in s).das) 0 ≡ false

pub due : (s : List ℕ) → Every (due_tests (seen (head_of s))) → Due s
unfolding machine_at dma_at channel_at
due s d =
    let x = head_of s in
    record {
      wait = eqb-true (num x the.wait) 0 d.0;
      pending = ap (λ (n : ℕ). eqb n 1) (eqb-true (num x the.pending) 0 d.1.0);
      state = ap state_of (eqb-true (num x the.dma_state) 2 d.1.1.0);
      progress = ap (λ (n : ℕ). progress_of n (num x the.channel) (unit_at x)) (eqb-true (num x the.present) 1 d.1.1.1.0);
      more = ap (λ (c : DmaChannel). eqb (down 65536 c.das) 0) (channel-is s) ∙ not-true (eqb (down 65536 (das_at x)) 0) d.1.1.1.1.0;
    }
