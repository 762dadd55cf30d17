-- What an accepted call leaves, where document 01's table refuses nothing: the definitions without their refusals.
use Prim.Native.Nat.{ℕ, ◌≤◌, ◌<◌}
use mathlib.Core.Bool.{Bool, true}
use mathlib.Core.List.{List}
use mathlib.Core.Logic.{◌≢◌}
use mathlib.Core.Path.{◌≡◌}
use native.Mathlib.Omega.{arith}
use borrow.Author.Tests.{le-ltb, ne_eqb}
use lib.ListN.{length}
use Rattle.bench.specs.Calls.{Desk, lent_of, event_of, cycle_done, cycle_call, read_done, read_call, cost_at, world_of, bused, write_call, PlainOut, pad_call, plug_call, answer_call, hosted, restored, back_call}
use Rattle.bench.specs.Host.{pad_set, plug_set, answer_set}
use Rattle.ring.specs.Refusal.{cycle_number, port_number, address_number, back_number}
use Rattle.ring.specs.Slots.{before, noted}
use Rattle.bus.specs.World.{read_at, write_at}
use Rattle.entry.specs.Entry.{decode_at}
use Rattle.layout.specs.Layout.{capacity}
use Rattle.machine.specs.Cycle.{cycled}
use Rattle.state.specs.declared.Machine.{Machine}
use Rattle.wram.specs.Olds.{no_olds}

-- what pad, plug and port answer leave: another machine, one entry without old bytes, both banks and their sum as they were
abbrev pub host_done : Desk → Machine → PlainOut
host_done d next =
    let n = noted d.bench d.entries next no_olds d.bench.sum in
    record { number = 0; desk = record { bench = n.bench; ram = d.ram; entries = n.entries } }

-- nothing that was lent is refused
module _ (rom : List ℕ) (d : Desk) (p : lent_of d (length rom) ≡ 0) where
  pub cycle-accepted : (event : ℕ) (line timer : Bool) → event ≤ 4 → d.bench.machine.board.clock < 18446744073709551615
      → cycle_call rom d event line timer ≡ cycle_done d (cycled rom d.bench.machine d.ram.low d.ram.high (event_of event) line timer)
  unfolding cycle_call cycle_number
  cycle-accepted event line timer q r =
      rw (le-ltb 4 event q, ne_eqb d.bench.machine.board.clock 18446744073709551615 (λ e. omega (arith, e)), p)

  pub read-accepted : (bank addr : ℕ) → read_call rom d bank addr ≡ read_done d (read_at rom (world_of d) bank addr) (cost_at d bank addr)
  unfolding read_call
  read-accepted bank addr = rw p

  pub write-accepted : (bank addr byte : ℕ)
      → write_call rom d bank addr byte ≡ record { number = 0; cost = cost_at d bank addr; desk = bused d (write_at (world_of d) bank addr byte) }
  unfolding write_call
  write-accepted bank addr byte = rw p

  pub pad-accepted : (port word : ℕ) → port ≤ 1 → pad_call rom d port word ≡ host_done d (pad_set d.bench.machine port word)
  unfolding pad_call hosted port_number
  pad-accepted port word q = rw (le-ltb 1 port q, p)

  pub plug-accepted : (port : ℕ) (on : Bool) → port ≤ 1 → plug_call rom d port on ≡ host_done d (plug_set d.bench.machine port on)
  unfolding plug_call hosted port_number
  plug-accepted port on q = rw (le-ltb 1 port q, p)

  pub answer-accepted : (addr byte : ℕ) → 0x2134 ≤ addr → addr ≤ 0x2143 → answer_call rom d addr byte ≡ host_done d (answer_set d.bench.machine addr byte)
  unfolding answer_call hosted address_number
  answer-accepted addr byte q r = rw (le-ltb addr 0x2134 q, le-ltb 0x2143 addr r, p)

module _ (d : Desk) (p : lent_of d 0 ≡ 0) where
  abbrev newest : ℕ
  newest = before (capacity d.bench.length) d.bench.slot

  pub back-accepted : d.bench.kept ≢ 0 → (decode_at d.entries newest).ok ≡ true
      → back_call d ≡ record { number = 0; desk = restored d (decode_at d.entries newest) newest }
  unfolding back_call back_number
  back-accepted q r = rw (ne_eqb d.bench.kept 0 q, r, p)
