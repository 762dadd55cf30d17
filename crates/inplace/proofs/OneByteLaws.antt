-- A byte moved on the machine's bytes where they stand is the cycle's own definition.
use Rattle.std.proofs.Common.{◌≡◌, ℕ, zero, suc, ◌+◌, ◌-◌, ◌%◌, ◌^◌, ◌<◌, ◌≤◌, Bool, true, false, not, ◌&&◌, T, eqb, ltb, leb, List, [], ◌∷◌, length, get_or, set, sym, refl, ap, ◌∙◌, subst, arith, ltb-true, leb-true, Option}
use Rattle.common.specs.{Pick.pick, Range.within, Width.Bytes}
use Rattle.common.proofs.RangeLaws.{below-eight}
use Rattle.asbytes.specs.{Answer.answered, Crossed.crossed, Crossed.cycle_crossed}
use Rattle.asbytes.specs.Machine.{head_of, bench_of, summed, stored, saved}
use Rattle.asbytes.specs.Places.{slot_at, count_at, length_at, sum_at}
use Rattle.bench.specs.Calls.{desk, cycle_call, cycle_done}
use Rattle.ring.specs.Slots.{noted}
use Rattle.bus.specs.{Access.opened, Access.register_read, View.channel_of, View.with_channel, World.World, World.world}
use Rattle.bus.specs.Route.{route_of, memory, next_wm}
use Rattle.bus.specs.declared.route.Route.{Route}
use Rattle.bus.specs.declared.route.Route.TheVariants.{Bank7E, Bank7F, Data, Registers, Cartridge}
use Rattle.bus.proofs.Ports.{silent, port_route, port-silent, moved_io}
use Rattle.decode.specs.Decode.{channel_at, channels_at, io_at, dma_at, board_at, machine_at}
use Rattle.dma.specs.{Cycle.Held, Cycle.holding, General.after_byte, General.on_banks}
use Rattle.dma.proofs.OneByte.{channel-moves, moves}
use Rattle.entry.specs.{Entry.written, Slot.write_slot}
use Rattle.fields.specs.{Bytes.byte_at, Little.le, Little.span, Patch.patched}
use Rattle.hdma.specs.Engine.{with_wait, with_progress}
use Rattle.hdma.specs.Engine.{DmaCore}
use Rattle.image.specs.{Encode.enc_olds, Encode.encode, Groups.byte, Groups.flag}
use Rattle.layout.specs.Layout as the
use Rattle.layout.specs.Layout.{num, entry_size}
use Rattle.machine.specs.Cycle.{Turned, turn_of, ticked, cycled}
use Rattle.machine.specs.declared.event.Event.TheVariants.{Nothing}
use Rattle.machine.proofs.Quiet.{unit-cycle}
use Rattle.ranges.proofs.Tests.{Every}
use Rattle.registers.specs.{Channel.no_channel, Read.read_byte}
use Rattle.registers.specs.Groups.{with_io-channels, with_dma_channel_a1t, with_dma_channel_das}
use Rattle.registers.specs.declared.{Io.Io, channel.DmaChannel.DmaChannel, wm_address.WmAddress.WmAddress}
use Rattle.signals.specs.Flags.{nmi_line}
use Rattle.state.specs.Progress.{progress_at}
use Rattle.state.specs.declared.{DmaProgress.DmaProgress, Machine.Machine}
use Rattle.transfer.specs.{Bits.flag_of, Bits.down, Pattern.offset_of, Pattern.b_address}
use Rattle.transfer.specs.Byte.{trip_of, moved, moved_log, next_a1t, step_a1t, trip_at, transfer_byte}
use Rattle.transfer.specs.declared.byte.Trip.{Trip}
use Rattle.transfer.proofs.PlainMove.{read_of, leaves, plain-move}
use Rattle.way.specs.Seen.{clock_at, nmi_at, busy_at, unit_at, dmap_at, a1t_at, a1b_at, bside_at, trip_in, seen}
use Rattle.way.specs.Way.{trip_tests, way_of}
use Rattle.way.proofs.Call.{bench_in, call-is, moves as goesMoving}
use Rattle.way.proofs.Ready.{Ready, machine_in, channel_in, channel-is, Due, due, bytes-are, idle, one, two, runs}
use Rattle.wram.specs.Banks.{banks, peeked, poked}
use Rattle.wram.specs.Olds.{Olds, no_olds, kept_at}
use Rattle.wram.specs.Sum.{follows}
use Rattle.inplace.proofs.OneByteJoin.{written-long}
use Rattle.inplace.specs.OneByte.{wmadd_bytes, port_byte, place_for, byte_by, byte_from, wmadd_next, written_next, after_move, carried}
use Rattle.inplace.specs.Rest.{at, counting, edge_at}

-- ---- the byte

-- a byte of a span
get_or-span : (n : ℕ) (e : List ℕ) (k i : ℕ) → i < n → get_or (span n e k) i 0 ≡ byte_at e (k + i)
get_or-span zero e k i h = absurd (omega (arith, h))
get_or-span (suc n) e k zero h = ap (λ (j : ℕ). byte_at e j) (omega arith)
get_or-span (suc n) e k (suc i) h = get_or-span n e (k + 1) i (omega (arith, h)) ∙ ap (λ (j : ℕ). byte_at e j) (omega arith)

-- a test that says where a number is
where_in : (l h a : ℕ) → within l h a ≡ true → (l ≤ a) × (a < h)
where_in l h a = go (leb l a) refl
  where
    go : (c : Bool) → leb l a ≡ c → pick c (ltb a h) false ≡ true → (l ≤ a) × (a < h)
    go true q r = (leb-true l a q, ltb-true a h r)
    go false q r = absurd (subst T (sym r) tt)

module _ (e rom : List ℕ) where
  abbrev io : Io
  io = io_at e

  from-memory : (r : Route) (c a v : ℕ) → memory r ≡ true → byte_by e rom r c a v ≡ (register_read rom io r c a v).byte
  unfolding register_read io_at
  from-memory Bank7E c a v h = refl
  from-memory Bank7F c a v h = refl
  from-memory Data c a v h = cc
  from-memory Registers c a v h = cc
  from-memory Cartridge c a v h = refl

  module _ (p : ℕ) (low : 0x2100 ≤ p) (high : p < 0x2200) where
    -- PPU, APU or open bus, as the registers have it
    from-register : port_byte e p ≡ read_byte io p
    unfolding io_at
    from-register = go (within 0x2134 0x2140 p) (within 0x2140 0x2180 p) refl refl
      where
        go : (x y : Bool) → within 0x2134 0x2140 p ≡ x → within 0x2140 0x2180 p ≡ y
            → pick x (num e (the.ppu (p - 0x2134))) (pick y (num e (the.apu (p % 4))) (num e the.openbus))
            ≡ pick x (get_or (span 12 e (at (the.ppu 0))) (p - 0x2134) 0) (pick y (get_or (span 4 e (at (the.apu 0))) (p % 4) 0) (silent io p))
        go true y q r =
            let w = where_in 0x2134 0x2140 p q in
            sym (get_or-span 12 e (at (the.ppu 0)) (p - 0x2134) (omega (arith, w.0, w.1)))
        go false true q r = sym (get_or-span 4 e (at (the.apu 0)) (p % 4) (omega arith))
        go false false q r = sym (port-silent p low high io)

    from-port : (v : ℕ) → byte_by e rom (route_of 0 p) 0 p v ≡ (register_read rom io (route_of 0 p) 0 p v).byte
    unfolding register_read
    from-port v = rw (port_route p low high) (go (eqb p 0x2180))
      where
        go : (c : Bool) → byte_by e rom (pick c Data Registers) 0 p v ≡ (register_read rom io (pick c Data Registers) 0 p v).byte
        go true = refl
        go false = from-register

-- ---- the image

-- a list of four
four : (l : List ℕ) → length l ≡ 4 → l ≡ get_or l 0 0 ∷ get_or l 1 0 ∷ get_or l 2 0 ∷ get_or l 3 0 ∷ []
four [] h = absurd (omega (arith, h))
four (x ∷ []) h = absurd (omega (arith, h))
four (x ∷ y ∷ []) h = absurd (omega (arith, h))
four (x ∷ y ∷ z ∷ []) h = absurd (omega (arith, h))
four (x ∷ y ∷ z ∷ w ∷ []) h = refl
four (x ∷ y ∷ z ∷ w ∷ q ∷ l) h = absurd (omega (arith, h))

abbrev in_progress : Machine → Option DmaProgress → Machine
in_progress m p = record { io = m.io; dma = with_progress m.dma p; board = m.board }

-- a channel with its A1T and DAS moved on
abbrev moved_on : DmaChannel → ℕ → ℕ → DmaChannel
moved_on c a d = with_dma_channel_das (with_dma_channel_a1t c a) d

-- the machine that a byte leaves
abbrev moved_from : Machine → WmAddress → ℕ → List ℕ → Bool → (ch next i a d : ℕ) → Machine
moved_from m w v apu nmi ch next i a d =
    record {
      io = with_io-channels (moved_io m.io w v apu) (set m.io.channels i (moved_on (get_or m.io.channels i no_channel) a d));
      dma = with_wait (with_progress m.dma (progress_at ch next)) 7;
      board = ticked m.board nmi;
    }

-- its bytes laid over others
abbrev laid : List ℕ → WmAddress → ℕ → List ℕ → Bool → (clock next i a d : ℕ) → List ℕ
laid x w v apu nmi clock next i a d =
    let registers = patched (patched (patched x (at the.bank) (wmadd_bytes w)) (at the.openbus) (byte v)) (at the.nmi) (flag nmi) in
    let unit = patched (patched registers (at the.unit) (le 4 next)) (at the.wait) (le 4 7) in
    let channel = patched (patched unit (at (the.register i the.a1t)) (le 2 a)) (at (the.register i the.das)) (le 2 d) in
    patched (patched channel (at (the.written 0)) apu) (at the.clock) (le 8 clock)

module _ (x : List ℕ) (w : WmAddress) (v a0 a1 a2 a3 : ℕ) (nmi : Bool) (ch u next a d : ℕ) where
  abbrev written4 : List ℕ
  written4 = a0 ∷ a1 ∷ a2 ∷ a3 ∷ []

  -- laid over the image of a machine they are the image of the machine left
  abbrev Lays : ℕ → Type 0
  Lays i =
      laid (encode (in_progress (machine_at x) (progress_at ch u)) no_olds) w v written4 nmi ((clock_at x + 1) % 2 ^ 64) next i a d
      ≡ encode (moved_from (machine_at x) w v written4 nmi ch next i a d) no_olds

  lays : (i : ℕ) → i < 8 → Lays i
  unfolding encode machine_at io_at dma_at board_at channels_at
  lays = below-eight Lays refl refl refl refl refl refl refl refl

-- old bytes laid over the entry without any
with-olds : (m : Machine) (o : Olds) → patched (encode m no_olds) (at the.old_count) (enc_olds o) ≡ encode m o
unfolding encode
with-olds m o = refl

-- ---- the cycle

module _ (s : List ℕ) (r : Ready s) (byteDue : Due s) (plain : Every (trip_tests (seen (head_of s)))) where
  abbrev e : List ℕ
  e = head_of s

  abbrev m : Machine
  m = machine_in s

  -- the channel, and its place among the eight
  abbrev ch : ℕ
  ch = num e the.channel

  abbrev nth : ℕ
  nth = busy_at e

  abbrev unit : ℕ
  unit = unit_at e

  abbrev next : ℕ
  next = (unit + 1) % 2 ^ 32

  abbrev c : DmaChannel
  c = channel_in s

  low : 0x2100 ≤ bside_at e
  low = omega arith

  high : bside_at e < 0x2200
  high = omega arith

  -- WMADD, the bytes at the APU, A1T and DAS after it
  abbrev wm : WmAddress
  wm = next_wm (bside_at e) m.io.wmadd

  abbrev to_apu : Bool
  to_apu = not (flag_of (dmap_at e) 0x80) && leb 0x2140 (bside_at e) && ltb (bside_at e) 0x2180

  abbrev apu : ℕ → List ℕ
  apu v = pick to_apu (set m.io.ports.written (bside_at e % 4) v) m.io.ports.written

  abbrev a1t : ℕ
  a1t = next_a1t c.dmap c.a1t

  abbrev das : ℕ
  das = down 65536 c.das

  abbrev left : ℕ → Machine
  left v = moved_from m wm v (apu v) (nmi_line m.io) ch next nth a1t das

  apu-four : (v : ℕ) → length (apu v) ≡ 4
  unfolding written_next machine_at io_at
  apu-four v = written-long e v

  -- the bytes after it are the image of the machine after it
  image-is : (v : ℕ) → after_move e v ≡ encode (left v) no_olds
  unfolding after_move wmadd_next written_next machine_at io_at board_at channel_at
  image-is v =
      let l = apu v in
      let at4 = four l (apu-four v) in
      let clock = (clock_at e + 1) % 2 ^ 64 in
      let from = in_progress m in
      let before : e ≡ encode (from (progress_at ch unit)) no_olds = sym (bytes-are s r) ∙ (λ i. encode (from (byteDue.progress i)) no_olds) in
      let reg = sym (channel-is s) in
      (λ i. laid (before i) wm v (at4 i) (nmi_at e) clock next nth (next_a1t (reg i).dmap (reg i).a1t) (down 65536 (reg i).das))
      ∙ lays e wm v (get_or l 0 0) (get_or l 1 0) (get_or l 2 0) (get_or l 3 0) (nmi_at e) ch unit next a1t das nth (omega arith)
      ∙ (λ i. encode (moved_from m wm v (sym at4 i) (nmi_at e) ch next nth a1t das) no_olds)

  module _ (rom l h : List ℕ) where
    abbrev trip : Trip
    trip = trip_in e

    -- the byte, as the bus reads it
    abbrev v : ℕ
    v = (read_of rom m.io l h trip.source.bank trip.source.addr).byte

    -- from memory to a port, or back
    abbrev trip_by : Bool → Trip
    trip_by d =
        pick d (record { source = record { bank = 0; addr = bside_at e }; target = record { bank = a1b_at e; addr = a1t_at e } })
        (record { source = record { bank = a1b_at e; addr = a1t_at e }; target = record { bank = 0; addr = bside_at e } })

    byte-is : byte_from e rom l h trip.source.bank trip.source.addr ≡ v
    unfolding byte_from place_for trip_of machine_at io_at
    byte-is = go (flag_of (dmap_at e) 0x80)
      where
        go : (d : Bool)
            → byte_from e rom l h (trip_by d).source.bank (trip_by d).source.addr ≡ (read_of rom m.io l h (trip_by d).source.bank (trip_by d).source.addr).byte
        go true = from-port e rom (bside_at e) low high (peeked (banks l h) (place_for e 0 (bside_at e)))
        go false = from-memory e rom (route_of (a1b_at e) (a1t_at e)) (a1b_at e) (a1t_at e) (peeked (banks l h) (place_for e (a1b_at e) (a1t_at e))) plain.0

    -- the bus before, and what it is left with
    abbrev begun : World
    begun = world (opened m.io) l h

    abbrev bus : World
    bus = leaves rom m.io l h (bside_at e) (flag_of (dmap_at e) 0x80) trip v

    moved-is : moved rom begun (trip_at begun ch unit) ≡ bus
    unfolding opened channel_of channel_at
    moved-is =
        (λ i.
        let x = channel-is s i in
        moved rom begun (trip_of x.dmap x.a1b x.a1t (b_address x.bbad (offset_of x.dmap unit))))
        ∙ plain-move rom m.io l h (dmap_at e) (a1b_at e) (a1t_at e) (bside_at e) low high plain.0 plain.1.0

    -- and the unit with the channel's registers
    abbrev unit_left : DmaCore
    unit_left =
        record {
          core = with_channel bus.core ch (moved_on c a1t das);
          dma = with_wait (with_progress m.dma (progress_at ch next)) 7;
        }

    eight : length m.io.channels ≡ 8
    unfolding machine_at io_at channels_at
    eight = refl

    stepped-is : (let w = transfer_byte rom begun ch unit in on_banks w (after_byte w.core m.dma ch unit)) ≡ on_banks bus unit_left
    unfolding transfer_byte opened channel_of
    stepped-is =
        (λ i. let x = moved-is i in on_banks x (after_byte (step_a1t x.core ch c.dmap) m.dma ch unit))
        ∙ (λ i. on_banks bus (channel-moves bus.core ch eight m.dma unit byteDue.more i))

    -- the whole cycle
    abbrev over : Turned
    over = turn_of (holding (on_banks bus unit_left)) m (nmi_line m.io)

    ends : cycled rom m l h Nothing false false ≡ over
    ends =
        unit-cycle rom m l h (idle s r) (one s r) (two s r) (runs s r)
        ∙ ap (λ (x : Held). turn_of x m (nmi_line m.io))
        (moves rom begun m.dma ch unit byteDue.wait byteDue.pending byteDue.state byteDue.progress ∙ ap holding stepped-is)

    module _ (en out : List ℕ) where
      crossed-is : carried rom s l h en out ≡ cycle_crossed s out (cycle_done (desk (bench_in s) l h en) over)
      unfolding carried place_for saved stored counting noted written with_channel machine_at board_at io_at
      crossed-is =
          let place = place_for e trip.target.bank trip.target.addr in
          let olds = kept_at no_olds (banks l h) place in
          let laidOver : List ℕ → ℕ → List ℕ = λ (x : List ℕ) (sum : ℕ). summed (counting (patched s 0 x) (slot_at s) (count_at s) (length_at s)) sum in
          let withOlds : List ℕ → List ℕ = λ (x : List ℕ). patched x (at the.old_count) (enc_olds olds) in
          let entry : withOlds e ≡ encode m olds = ap withOlds (sym (bytes-are s r)) ∙ with-olds m olds in
          (λ i.
          let x = byte-is i in
          let ram = poked (banks l h) place x in
          crossed 0 (laidOver (after_move e x) (follows (sum_at s) (banks l h) ram)) ram.low ram.high (write_slot entry_size (slot_at s) (entry i) en) (answered true (edge_at e) (moved_log trip x) out))
          ∙ (λ i.
          let ram = poked (banks l h) place v in
          crossed 0 (laidOver (image-is v i) (follows (sum_at s) (banks l h) ram)) ram.low ram.high (write_slot entry_size (slot_at s) (encode m olds) en) (answered true (edge_at e) (moved_log trip v) out))

-- ---- the law

pub carry-by : (rom s l h en out : List ℕ) (event : ℕ) (line timer : Bool) → Bytes s
    → way_of s (length l) (length h) (length en) (length rom) event line timer ≡ 2
    → carried rom s l h en out ≡ cycle_crossed s out (cycle_call rom (desk (bench_of s) l h en) event line timer)
carry-by rom s l h en out event line timer fit way =
    let q = goesMoving s fit (length l) (length h) (length en) (length rom) event line timer way in
    let g = q.0 in
    let d = due s q.1.0 in
    crossed-is s g.ready d q.1.1 rom l h en out
    ∙ ap (λ (t : Turned). cycle_crossed s out (cycle_done (desk (bench_in s) l h en) t)) (sym (ends s g.ready d q.1.1 rom l h))
    ∙ ap (cycle_crossed s out) (sym (call-is s g.ready rom l h en g.lent event line timer g.plain))

-- the same of what the code leaves
pub carry-crossed : (rom s l h en out : List ℕ) (event : ℕ) (line timer : Bool) {way : ℕ} {m l2 h2 e o : List ℕ} → Bytes s
    → way ≡ way_of s (length l) (length h) (length en) (length rom) event line timer → way ≡ 2 → crossed 0 m l2 h2 e o ≡ carried rom s l h en out
    → crossed 0 m l2 h2 e o ≡ cycle_crossed s out (cycle_call rom (desk (bench_of s) l h en) event line timer)
carry-crossed rom s l h en out event line timer fit p q r = r ∙ carry-by rom s l h en out event line timer fit (sym p ∙ q)
