-- Two wrong answers for each public call of the bench that its contract rules out (more stand in Rejected and Counts).
use Prim.Native.Nat.{ℕ}
use mathlib.Core.Bool.{Bool, true, false, not, ◌||◌}
use mathlib.Core.List.{List, [], ◌∷◌}
use mathlib.Core.Logic.{◌≢◌, ◌⊎◌, inl, inr}
use mathlib.Core.Path.{◌≡◌, refl, sym, ap, ◌∙◌}
use native.Mathlib.Omega.{arith}
use lib.Dec.{eqb}
use lib.ListN.{length, get_or}
use lib.Seq.{length-take-le}
use Rattle.bench.specs.Calls.{lent_of, CycleOut, cycle_call, ReadOut, read_call, WriteOut, write_call, PlainOut, hosted, pad_call, plug_call, answer_call, back_call, FreshOut, fresh_call}
use Rattle.bench.specs.Host.{pad_set, plug_set, answer_set}
use Rattle.bench.specs.Page.{page_call}
use Rattle.ring.specs.Slots.{noted}
use Rattle.ring.specs.Refusal.{banks_off, cycle_number, port_number, address_number, back_number, fresh_number, look_number}
use Rattle.bus.specs.{Access.opened, Route.cost_of, Route.route_of, View.mdmaen_of, View.hdmaen_of}
use Rattle.dma.specs.Cycle.{start_pending, due_of, acted, act_by, updated}
use Rattle.judged.proofs.{Counts.read-counted, Counts.write-counted, Start.start-lent}
use Rattle.judged.proofs.Rejected.{true-false, start-cycle, start-read, start-write, start-pad, start-plug, start-answer}
use Rattle.judged.specs.Tried.{Sizes, start}
use Rattle.layout.specs.Layout.{entry_size}
use Rattle.machine.specs.{Cycle.armed, Cycle.cycled, PowerOn.power_on_dma, PowerOn.power_on_machine}
use Rattle.machine.specs.Event.{pressed, evented, settled, timed}
use Rattle.registers.specs.PowerOn.{power_on}
use Rattle.signals.specs.AutoJoypad.{auto_step}

-- ---- fresh

or_true : (b : Bool) → (b || true) ≡ true
or_true true = refl
or_true false = refl

module _ (l h : List ℕ) where
  -- a bank of 65,535 accepted
  short : (length l ≡ 65535) ⊎ (length h ≡ 65535) → banks_off (length l) (length h) ≡ true
  short (inl low) = rw low refl
  short (inr high) = rw high (or_true (not (eqb (length l) 65536)))

  pub fresh_65535 : (length l ≡ 65535) ⊎ (length h ≡ 65535) → {o : FreshOut} → o ≡ fresh_call l h entry_size 1 → o.number ≢ 0
  unfolding fresh_call fresh_number
  fresh_65535 s k z =
      let n : (fresh_call l h entry_size 1).number ≡ 1 = rw (short s) refl in
      omega (arith, sym (ap (λ (o : FreshOut). o.number) k ∙ n) ∙ z)

  module _ (low : length l ≡ 65536) (high : length h ≡ 65536) {o : FreshOut} where
    -- bit cycles 4,097 accepted
    pub fresh_4097 : o ≡ fresh_call l h entry_size 4097 → o.number ≢ 0
    unfolding fresh_call fresh_number
    fresh_4097 k z =
        let n : (fresh_call l h entry_size 4097).number ≡ 10 = rw (low, high) refl in
        omega (arith, sym (ap (λ (o : FreshOut). o.number) k ∙ n) ∙ z)

    -- the shortest record with the least bit cycles refused
    pub fresh_256 : o ≡ fresh_call l h entry_size 1 → o.number ≢ 2
    unfolding fresh_call fresh_number
    fresh_256 k z =
        let n : (fresh_call l h entry_size 1).number ≡ 0 = rw (low, high) refl in
        omega (arith, sym (ap (λ (o : FreshOut). o.number) k ∙ n) ∙ z)

    -- a refused fresh that keeps the bit cycles given
    pub fresh_kept_bits : o ≡ fresh_call l h entry_size 4097 → o.bench.machine.board.bitcycles ≢ 4097
    unfolding fresh_call fresh_number power_on_machine
    fresh_kept_bits k z =
        let n : (fresh_call l h entry_size 4097).bench.machine.board.bitcycles ≡ 1 = rw (low, high) refl in
        omega (arith, sym (ap (λ (o : FreshOut). o.bench.machine.board.bitcycles) k ∙ n) ∙ z)

    -- a refused fresh with a sum
    pub fresh_kept_sum : (n : ℕ) → n ≢ 0 → o ≡ fresh_call l h entry_size 4097 → o.bench.sum ≢ n
    unfolding fresh_call fresh_number
    fresh_kept_sum n some k z =
        let none : (fresh_call l h entry_size 4097).bench.sum ≡ 0 = rw (low, high) refl in
        some (sym z ∙ ap (λ (o : FreshOut). o.bench.sum) k ∙ none)

lent : (l h e : List ℕ) → Sizes l h e → lent_of (start l h e) 0 ≡ 0
lent l h e s = start-lent s [] (omega arith)

module _ (l h e : List ℕ) (s : Sizes l h e) where
  -- ---- cycle

  -- event 5 accepted
  pub cycle_event_5 : {o : CycleOut} → o ≡ cycle_call [] (start l h e) 5 false false → o.number ≢ 0
  unfolding cycle_call cycle_number
  cycle_event_5 k z =
      let n : (cycle_call [] (start l h e) 5 false false).number ≡ 5 = rw (lent l h e s) refl in
      omega (arith, sym (ap (λ (o : CycleOut). o.number) k ∙ n) ∙ z)

  -- an access where no transfer runs
  pub cycle-access : {o : CycleOut} → o ≡ cycle_call [] (start l h e) 0 false false → o.log.count ≢ 1
  unfolding cycled updated start_pending due_of acted act_by armed mdmaen_of hdmaen_of timed settled evented pressed opened power_on_machine power_on_dma power_on auto_step
  cycle-access k z = omega (arith, sym (ap (λ (o : CycleOut). o.log.count) (k ∙ start-cycle l h e s)) ∙ z)

  -- a clock that jumps
  pub cycle_clock_2 : {o : CycleOut} → o ≡ cycle_call [] (start l h e) 0 false false → o.desk.bench.machine.board.clock ≢ 2
  unfolding cycled noted power_on_machine
  cycle_clock_2 k z = omega (arith, sym (ap (λ (o : CycleOut). o.desk.bench.machine.board.clock) (k ∙ start-cycle l h e s)) ∙ z)

  -- ---- read

  -- work RAM at the cost of a register
  pub read_cost_6 : {o : ReadOut} → o ≡ read_call [] (start l h e) 0x7E 0 → o.cost ≢ 6
  unfolding cost_of route_of
  read_cost_6 k z = omega (arith, sym (ap (λ (o : ReadOut). o.cost) (k ∙ start-read l h e s 0x7E 0)) ∙ z)

  -- a read that is not kept
  pub read_not_kept : (bank addr : ℕ) {o : ReadOut} → o ≡ read_call [] (start l h e) bank addr → o.desk.bench.kept ≢ 0
  read_not_kept bank addr k z = omega (arith, sym (read-counted [] (start l h e) (lent l h e s) bank addr k).kept ∙ z)

  -- ---- write

  -- a write that costs nothing
  pub write_cost_0 : (byte : ℕ) {o : WriteOut} → o ≡ write_call [] (start l h e) 0x7E 0 byte → o.cost ≢ 0
  unfolding cost_of route_of
  write_cost_0 byte k z = omega (arith, sym (ap (λ (o : WriteOut). o.cost) (k ∙ start-write l h e s 0x7E 0 byte)) ∙ z)

  -- a write that is not kept
  pub write_not_kept : (bank addr byte : ℕ) {o : WriteOut} → o ≡ write_call [] (start l h e) bank addr byte → o.desk.bench.kept ≢ 0
  write_not_kept bank addr byte k z = omega (arith, sym (write-counted [] (start l h e) (lent l h e s) bank addr byte k).kept ∙ z)

  -- ---- pad

  -- a pad word with its low four bits
  pub pad-low_bits : {o : PlainOut} → o ≡ pad_call [] (start l h e) 0 31 → o.desk.bench.machine.board.pad1 ≢ 31
  unfolding pad_set noted
  pad-low_bits k z = omega (arith, sym (ap (λ (o : PlainOut). o.desk.bench.machine.board.pad1) (k ∙ start-pad l h e s 31)) ∙ z)

  -- controller port 2 accepted
  pub pad_port_2 : (word : ℕ) {o : PlainOut} → o ≡ pad_call [] (start l h e) 2 word → o.number ≢ 0
  unfolding pad_call hosted port_number
  pad_port_2 word k z =
      let n : (pad_call [] (start l h e) 2 word).number ≡ 6 = rw (lent l h e s) refl in
      omega (arith, sym (ap (λ (o : PlainOut). o.number) k ∙ n) ∙ z)

  -- ---- plug

  -- controller port 2 refused by another number
  pub plug_port_2 : (on : Bool) {o : PlainOut} → o ≡ plug_call [] (start l h e) 2 on → o.number ≢ 5
  unfolding plug_call hosted port_number
  plug_port_2 on k z =
      let n : (plug_call [] (start l h e) 2 on).number ≡ 6 = rw (lent l h e s) refl in
      omega (arith, sym (ap (λ (o : PlainOut). o.number) k ∙ n) ∙ z)

  -- a pad pulled from the other port
  pub plug_other_port : {o : PlainOut} → o ≡ plug_call [] (start l h e) 0 false → o.desk.bench.machine.io.pads.port2.connected ≢ false
  unfolding plug_set noted power_on_machine power_on
  plug_other_port k z = true-false (sym (ap (λ (o : PlainOut). o.desk.bench.machine.io.pads.port2.connected) (k ∙ start-plug l h e s false)) ∙ z)

  -- ---- port answer

  -- $2144 accepted
  pub answer_2144 : (byte : ℕ) {o : PlainOut} → o ≡ answer_call [] (start l h e) 0x2144 byte → o.number ≢ 0
  unfolding answer_call hosted address_number
  answer_2144 byte k z =
      let n : (answer_call [] (start l h e) 0x2144 byte).number ≡ 6 = rw (lent l h e s) refl in
      omega (arith, sym (ap (λ (o : PlainOut). o.number) k ∙ n) ∙ z)

  -- an answer stored under the address beside
  pub answer-beside : {o : PlainOut} → o ≡ answer_call [] (start l h e) 0x2134 1 → get_or o.desk.bench.machine.io.ports.ppu 1 0 ≢ 1
  unfolding answer_set noted power_on_machine power_on
  answer-beside k z = omega (arith, sym (ap (λ (o : PlainOut). get_or o.desk.bench.machine.io.ports.ppu 1 0) (k ∙ start-answer l h e s 1)) ∙ z)

  -- ---- back

  -- accepted with nothing kept
  pub back-nothing : {o : PlainOut} → o ≡ back_call (start l h e) → o.number ≢ 0
  unfolding back_call back_number
  back-nothing k z =
      let n : (back_call (start l h e)).number ≡ 8 = rw (lent l h e s) refl in
      omega (arith, sym (ap (λ (o : PlainOut). o.number) k ∙ n) ∙ z)

module _ (l h e : List ℕ) (s : Sizes l h e) where
  -- ---- page look and its number

  -- nothing of a page that is there
  pub look-nothing : {r : List ℕ} → r ≡ page_call l h 0 → r ≢ []
  unfolding page_call
  look-nothing k z =
      let n : length (page_call l h 0) ≡ 256 = rw (s.low, s.high) (length-take-le 256 l (omega (arith, s.low))) in
      omega (arith, sym (ap (λ (x : List ℕ). length x) k ∙ n) ∙ ap (λ (x : List ℕ). length x) z)

  -- bytes of page 512
  pub look_512 : (x : ℕ) (xs : List ℕ) {r : List ℕ} → r ≡ page_call l h 512 → r ≢ x ∷ xs
  unfolding page_call
  look_512 x xs k z =
      let n : length (page_call l h 512) ≡ 0 = rw (s.low, s.high) refl in
      omega (arith, sym (ap (λ (y : List ℕ). length y) k ∙ n) ∙ ap (λ (y : List ℕ). length y) z)

-- page 512 accepted
pub number_512 : {r : ℕ} → r ≡ look_number 65536 65536 512 → r ≢ 0
unfolding look_number
number_512 k z = omega (arith, sym k ∙ z)

-- page 512 named before a short bank
pub number_short : {r : ℕ} → r ≡ look_number 65535 65536 512 → r ≢ 12
unfolding look_number
number_short k z = omega (arith, sym k ∙ z)
