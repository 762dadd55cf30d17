-- Document 01, "To be rejected": a core that refuses everything, one with a fixed reply, one whose operations do nothing. Each breaks the
-- contract of every operation on a machine just given by fresh, with any bytes of the right sizes.
use Prim.Native.Nat.{ℕ}
use mathlib.Core.Bool.{Bool, true, false}
use mathlib.Core.List.{List, []}
use mathlib.Core.Logic.{◌≢◌}
use mathlib.Core.Path.{◌≡◌, sym, ap, ◌∙◌}
use native.Mathlib.Omega.{arith}
use lib.ListN.{get_or, set}
use lib.Seq.{get_or-set_same}
use Rattle.bench.specs.Calls.{lent_of, event_of, CycleOut, cycle_done, cycle_call, cost_at, ReadOut, read_done, read_call, world_of, bused, WriteOut, write_call, PlainOut, pad_call, plug_call, answer_call}
use Rattle.bench.specs.Host.{pad_set, plug_set, answer_set}
use Rattle.ring.specs.Slots.{noted}
use Rattle.bus.specs.{Access.register_read, Access.opened, World.read_at, World.write_at}
use Rattle.bus.specs.Route.{system_route, route_of, place_of}
use Rattle.bench.proofs.Accepted.{host_done, cycle-accepted, read-accepted, write-accepted, pad-accepted, plug-accepted, answer-accepted}
use Rattle.judged.proofs.Start.{start-lent}
use Rattle.judged.specs.Tried.{Sizes, start}
use Rattle.machine.specs.{Cycle.cycled, PowerOn.power_on_machine}
use Rattle.registers.specs.PowerOn.{power_on}
use Rattle.state.specs.declared.Machine.{Machine}

-- true is not false
pub true-false : ◌≡◌ {A = Bool} true false → ⊥
true-false z = let o : ◌≡◌ {A = ℕ} 0 1 = cc in absurd (omega arith)

module _ (l h e : List ℕ) (s : Sizes l h e) where
  lent : lent_of (start l h e) 0 ≡ 0
  lent = start-lent s [] (omega arith)

  pub start-cycle : cycle_call [] (start l h e) 0 false false ≡ cycle_done (start l h e) (cycled [] (power_on_machine 264) l h (event_of 0) false false)
  unfolding power_on_machine
  start-cycle = cycle-accepted [] (start l h e) lent 0 false false (omega arith) (omega arith)

  pub start-read : (bank addr : ℕ)
      → read_call [] (start l h e) bank addr ≡ read_done (start l h e) (read_at [] (world_of (start l h e)) bank addr) (cost_at (start l h e) bank addr)
  start-read bank addr = read-accepted [] (start l h e) lent bank addr

  pub start-write : (bank addr byte : ℕ)
      → write_call [] (start l h e) bank addr byte
      ≡ record { number = 0; cost = cost_at (start l h e) bank addr; desk = bused (start l h e) (write_at (world_of (start l h e)) bank addr byte) }
  start-write bank addr byte = write-accepted [] (start l h e) lent bank addr byte

  pub start-pad : (word : ℕ) → pad_call [] (start l h e) 0 word ≡ host_done (start l h e) (pad_set (power_on_machine 264) 0 word)
  start-pad word = pad-accepted [] (start l h e) lent 0 word (omega arith)

  pub start-plug : (on : Bool) → plug_call [] (start l h e) 0 on ≡ host_done (start l h e) (plug_set (power_on_machine 264) 0 on)
  start-plug on = plug-accepted [] (start l h e) lent 0 on (omega arith)

  pub start-answer : (byte : ℕ) → answer_call [] (start l h e) 0x2134 byte ≡ host_done (start l h e) (answer_set (power_on_machine 264) 0x2134 byte)
  start-answer byte = answer-accepted [] (start l h e) lent 0x2134 byte (omega arith) (omega arith)

  -- ---- a core that refuses everything: each operation is accepted here

  pub cycle_not_refused : {o : CycleOut} → o ≡ cycle_call [] (start l h e) 0 false false → o.number ≡ 0
  cycle_not_refused k = ap (λ (o : CycleOut). o.number) (k ∙ start-cycle)

  pub read_not_refused : (bank addr : ℕ) {o : ReadOut} → o ≡ read_call [] (start l h e) bank addr → o.number ≡ 0
  read_not_refused bank addr k = ap (λ (o : ReadOut). o.number) (k ∙ start-read bank addr)

  pub write_not_refused : (bank addr byte : ℕ) {o : WriteOut} → o ≡ write_call [] (start l h e) bank addr byte → o.number ≡ 0
  write_not_refused bank addr byte k = ap (λ (o : WriteOut). o.number) (k ∙ start-write bank addr byte)

  pub pad_not_refused : (word : ℕ) {o : PlainOut} → o ≡ pad_call [] (start l h e) 0 word → o.number ≡ 0
  pad_not_refused word k = ap (λ (o : PlainOut). o.number) (k ∙ start-pad word)

  pub plug_not_refused : (on : Bool) {o : PlainOut} → o ≡ plug_call [] (start l h e) 0 on → o.number ≡ 0
  plug_not_refused on k = ap (λ (o : PlainOut). o.number) (k ∙ start-plug on)

  pub answer_not_refused : (byte : ℕ) {o : PlainOut} → o ≡ answer_call [] (start l h e) 0x2134 byte → o.number ≡ 0
  answer_not_refused byte k = ap (λ (o : PlainOut). o.number) (k ∙ start-answer byte)

  -- ---- operations that do nothing: each of these changes the machine or a bank

  pub cycle_not_idle : {o : CycleOut} → o ≡ cycle_call [] (start l h e) 0 false false → o.desk.bench.machine ≢ power_on_machine 264
  unfolding cycled noted power_on_machine
  cycle_not_idle {o} k z =
      let a : o.desk.bench.machine.board.clock ≡ 1 = ap (λ (o : CycleOut). o.desk.bench.machine.board.clock) (k ∙ start-cycle) in
      let b : o.desk.bench.machine.board.clock ≡ 0 = ap (λ (m : Machine). m.board.clock) z in
      absurd (omega (arith, a, b))

  -- a read of $2180 steps WMADD
  pub read_not_idle : {o : ReadOut} → o ≡ read_call [] (start l h e) 0 0x2180 → o.desk.bench.machine ≢ power_on_machine 264
  unfolding read_at register_read route_of system_route opened noted power_on_machine power_on
  read_not_idle {o} k z =
      let a : o.desk.bench.machine.io.wmadd.addr ≡ 1 = ap (λ (o : ReadOut). o.desk.bench.machine.io.wmadd.addr) (k ∙ start-read 0 0x2180) in
      let b : o.desk.bench.machine.io.wmadd.addr ≡ 0 = ap (λ (m : Machine). m.io.wmadd.addr) z in
      absurd (omega (arith, a, b))

  pub write_low : (byte : ℕ) {o : WriteOut} → o ≡ write_call [] (start l h e) 0x7E 0 byte → get_or o.desk.ram.low 0 0 ≡ byte
  unfolding write_at route_of place_of
  write_low byte {o} k =
      let a : o.desk.ram.low ≡ set l 0 byte = ap (λ (o : WriteOut). o.desk.ram.low) (k ∙ start-write 0x7E 0 byte) in
      ap (λ (x : List ℕ). get_or x 0 0) a ∙ get_or-set_same l 0 byte 0 (omega (arith, s.low))

  pub write_not_idle : (byte : ℕ) → get_or l 0 0 ≢ byte → {o : WriteOut} → o ≡ write_call [] (start l h e) 0x7E 0 byte → o.desk.ram.low ≢ l
  write_not_idle byte q k z = absurd (q (ap (λ (x : List ℕ). get_or x 0 0) (sym z) ∙ write_low byte k))

  pub pad_not_idle : {o : PlainOut} → o ≡ pad_call [] (start l h e) 0 16 → o.desk.bench.machine ≢ power_on_machine 264
  unfolding pad_set noted power_on_machine
  pad_not_idle {o} k z =
      let a : o.desk.bench.machine.board.pad1 ≡ 16 = ap (λ (o : PlainOut). o.desk.bench.machine.board.pad1) (k ∙ start-pad 16) in
      let b : o.desk.bench.machine.board.pad1 ≡ 0 = ap (λ (m : Machine). m.board.pad1) z in
      absurd (omega (arith, a, b))

  pub plug_not_idle : {o : PlainOut} → o ≡ plug_call [] (start l h e) 0 false → o.desk.bench.machine ≢ power_on_machine 264
  unfolding plug_set noted power_on_machine power_on
  plug_not_idle {o} k z =
      let a : o.desk.bench.machine.io.pads.port1.connected ≡ false = ap (λ (o : PlainOut). o.desk.bench.machine.io.pads.port1.connected) (k ∙ start-plug false) in
      let b : o.desk.bench.machine.io.pads.port1.connected ≡ true = ap (λ (m : Machine). m.io.pads.port1.connected) z in
      true-false (sym b ∙ a)

  pub answer_not_idle : {o : PlainOut} → o ≡ answer_call [] (start l h e) 0x2134 1 → o.desk.bench.machine ≢ power_on_machine 264
  unfolding answer_set noted power_on_machine power_on
  answer_not_idle {o} k z =
      let a : get_or o.desk.bench.machine.io.ports.ppu 0 0 ≡ 1 = ap (λ (o : PlainOut). get_or o.desk.bench.machine.io.ports.ppu 0 0) (k ∙ start-answer 1) in
      let b : get_or o.desk.bench.machine.io.ports.ppu 0 0 ≡ 0 = ap (λ (m : Machine). get_or m.io.ports.ppu 0 0) z in
      absurd (omega (arith, a, b))

  pub read_low : {o : ReadOut} → o ≡ read_call [] (start l h e) 0x7E 0 → o.byte ≡ get_or l 0 0
  unfolding read_at register_read route_of place_of
  read_low k = ap (λ (o : ReadOut). o.byte) (k ∙ start-read 0x7E 0)

-- ---- one fixed reply: two accepted reads of banks that differ in a byte have different replies
pub read_not_fixed : (l m h e : List ℕ) → Sizes l h e → Sizes m h e → get_or l 0 0 ≢ get_or m 0 0 → {o o' : ReadOut}
    → o ≡ read_call [] (start l h e) 0x7E 0 → o' ≡ read_call [] (start m h e) 0x7E 0 → o.byte ≢ o'.byte
read_not_fixed l m h e s t q k k' z = q (sym (read_low l h e s k) ∙ z ∙ read_low m h e t k')
