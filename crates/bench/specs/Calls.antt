-- The public calls (document 01, "Calls"): result, machine, both banks and record, for all inputs. A refusal returns the machine given,
-- false flags, zero numbers and no access, and alters nothing that was lent.
use Rattle.std.specs.Prelude.{ℕ, ◌-◌, Bool, false, List, [], ◌∷◌, eqb, length}
use Rattle.common.specs.Pick.{pick}
use Rattle.common.specs.Refusal.{refusal_number}
use Rattle.common.specs.Table.{Entry, at, find}
use Rattle.bus.specs.Access.{Log}
use Rattle.common.specs.declared.refusal.Refusal.{Refusal}
use Rattle.std.specs.declared.result.Result.{Result}
use Rattle.std.specs.declared.result.Result.TheVariants.{Ok, Err}
use Rattle.bus.specs.{Access.no_log, Access.opened, Route.cost_of}
use Rattle.bus.specs.World.{World, Reading, read_at, write_at}
use Rattle.entry.specs.Entry.{decode_at}
use Rattle.entry.specs.declared.Decoded.{Decoded}
use Rattle.layout.specs.Layout.{capacity}
use Rattle.machine.specs.Cycle.{Turned, machine_after, cycled}
use Rattle.machine.specs.{PowerOn.power_on_machine, declared.cycle.Turn.Turn, declared.event.Event.Event}
use Rattle.machine.specs.declared.event.Event.TheVariants.{Nothing, HBlankStart, NormalLine, VBlankStart, FrameStart}
use Rattle.state.specs.declared.Machine.{Machine}
use Rattle.wram.specs.Olds.{Olds}
use Rattle.wram.specs.{Banks.Banks, Banks.banks, Olds.no_olds, Olds.put_back, Sum.ram_sum, Sum.follows}
use Rattle.bench.specs.Host.{with_io, pad_set, plug_set, answer_set}
use Rattle.ring.specs.Refusal.{lent_number, cycle_number, port_number, address_number, back_number, fresh_number}
use Rattle.ring.specs.Slots.{before, bench, Noted, noting, noted}
use Rattle.bench.specs.declared.operate.{CycleAnswer.CycleAnswer, ReadAnswer.ReadAnswer}
use Rattle.ring.specs.declared.Bench.{Bench}
use Rattle.bench.specs.declared.{operate.WriteAnswer.WriteAnswer, fresh.RefusedFresh.RefusedFresh}

-- what a call is given and leaves: the machine with its counts and its sum, both banks, the record's bytes
pub record Desk : Type 0 where
  pub bench : Bench
  pub ram : Banks
  pub entries : List ℕ

abbrev pub desk : Bench → List ℕ → List ℕ → List ℕ → Desk
desk b l h e = record { bench = b; ram = banks l h; entries = e }

-- what every operation is refused by
abbrev pub lent_of : Desk → ℕ → ℕ
lent_of d rom = lent_number d.bench (length d.ram.low) (length d.ram.high) (length d.entries) rom

-- an accepted operation: what the rules give, and one entry; the sum follows work RAM
abbrev pub recorded : Desk → Machine → Olds → Banks → Desk
recorded d next olds ram =
    let n = noted d.bench d.entries next olds (follows d.bench.sum d.ram ram) in
    record { bench = n.bench; ram = ram; entries = n.entries }

-- ---- cycle

-- 0 none, 1 H-blank start, 2 normal line, 3 V-blank start, 4 frame start
abbrev pub events : List (Entry Event)
events = at 1 HBlankStart ∷ at 2 NormalLine ∷ at 3 VBlankStart ∷ at 4 FrameStart ∷ []

-- an event by its number
abbrev pub event_of : ℕ → Event
event_of n = find events n Nothing

-- what a cycle answers and leaves
pub record CycleOut : Type 0 where
  pub number : ℕ
  pub held : Bool
  pub edge : Bool
  pub log : Log
  pub desk : Desk

-- beside the machine given, which a refusal leaves
abbrev pub cycle_out : Bench → Result CycleAnswer Refusal → List ℕ → List ℕ → List ℕ → CycleOut
cycle_out b (Ok r) l h e = record { number = 0; held = r.held; edge = r.edge; log = r.log; desk = desk r.bench l h e }
cycle_out b (Err x) l h e = record { number = refusal_number x; held = false; edge = false; log = no_log; desk = desk b l h e }

-- an accepted cycle
abbrev pub cycle_done : Desk → Turned → CycleOut
cycle_done d t =
    let k = t.after.world.core in
    record { number = 0; held = t.held; edge = t.edge; log = k.log; desk = recorded d (machine_after t) k.olds t.after.world.ram }

-- a refused one
abbrev pub cycle_refused : Desk → ℕ → CycleOut
cycle_refused d n = record { number = n; held = false; edge = false; log = no_log; desk = d }

-- number 0 leads to the operation, any other to the desk as it was given
unfoldable pub cycle_call : List ℕ → Desk → ℕ → Bool → Bool → CycleOut
cycle_call rom d event line timer =
    let n = cycle_number (lent_of d (length rom)) d.bench event in
    pick (eqb n 0) (cycle_done d (cycled rom d.bench.machine d.ram.low d.ram.high (event_of event) line timer)) (cycle_refused d n)

-- ---- read and write

-- the world of the bus as an operation finds it
abbrev pub world_of : Desk → World
world_of d = record { core = opened d.bench.machine.io; ram = d.ram }

-- what an access costs
abbrev pub cost_at : Desk → ℕ → ℕ → ℕ
cost_at d bank addr = cost_of d.bench.machine.io.enables.memsel bank addr

-- the operation whose bus ended in a world
abbrev pub bused : Desk → World → Desk
bused d w = recorded d (with_io d.bench.machine w.core.io) w.core.olds w.ram

-- what a read answers and leaves
pub record ReadOut : Type 0 where
  pub number : ℕ
  pub byte : ℕ
  pub cost : ℕ
  pub desk : Desk

abbrev pub read_out : Bench → Result ReadAnswer Refusal → List ℕ → List ℕ → List ℕ → ReadOut
read_out b (Ok r) l h e = record { number = 0; byte = r.byte; cost = r.cost; desk = desk r.bench l h e }
read_out b (Err x) l h e = record { number = refusal_number x; byte = 0; cost = 0; desk = desk b l h e }

-- an accepted read
abbrev pub read_done : Desk → Reading → ℕ → ReadOut
read_done d r cost = record { number = 0; byte = r.byte; cost = cost; desk = bused d r.world }

unfoldable pub read_call : List ℕ → Desk → ℕ → ℕ → ReadOut
read_call rom d bank addr =
    let n = lent_of d (length rom) in
    pick (eqb n 0) (read_done d (read_at rom (world_of d) bank addr) (cost_at d bank addr)) (record { number = n; byte = 0; cost = 0; desk = d })

-- what a write answers and leaves
pub record WriteOut : Type 0 where
  pub number : ℕ
  pub cost : ℕ
  pub desk : Desk

abbrev pub write_out : Bench → Result WriteAnswer Refusal → List ℕ → List ℕ → List ℕ → WriteOut
write_out b (Ok r) l h e = record { number = 0; cost = r.cost; desk = desk r.bench l h e }
write_out b (Err x) l h e = record { number = refusal_number x; cost = 0; desk = desk b l h e }

unfoldable pub write_call : List ℕ → Desk → ℕ → ℕ → ℕ → WriteOut
write_call rom d bank addr byte =
    let n = lent_of d (length rom) in
    pick (eqb n 0) (record { number = 0; cost = cost_at d bank addr; desk = bused d (write_at (world_of d) bank addr byte) })
    (record { number = n; cost = 0; desk = d })

-- ---- pad, plug and port answer: the host changes the machine, and work RAM is not written

-- a number, and what the call leaves
pub record PlainOut : Type 0 where
  pub number : ℕ
  pub desk : Desk

abbrev pub plain_out : Bench → Result Bench Refusal → List ℕ → List ℕ → List ℕ → PlainOut
plain_out b (Ok r) l h e = record { number = 0; desk = desk r l h e }
plain_out b (Err x) l h e = record { number = refusal_number x; desk = desk b l h e }

-- the same with the banks left out
pub record Hosting : Type 0 where
  pub number : ℕ
  pub noted : Noted

-- an accepted change writes one entry, with no old bytes, and leaves the sum as it was
unfoldable pub hosted : Bench → List ℕ → ℕ → Machine → Hosting
hosted b e number next =
    pick (eqb number 0) (record { number = 0; noted = noted b e next no_olds b.sum }) (record { number = number; noted = noting b e })

-- with the banks as they were
abbrev pub on_banks : Banks → Hosting → PlainOut
on_banks ram x = record { number = x.number; desk = record { bench = x.noted.bench; ram = ram; entries = x.noted.entries } }

-- what a call of the host leaves, by its number and the machine that it would leave
abbrev pub host_call : Desk → ℕ → Machine → PlainOut
host_call d number next = on_banks d.ram (hosted d.bench d.entries number next)

unfoldable pub pad_call : List ℕ → Desk → ℕ → ℕ → PlainOut
pad_call rom d port w = host_call d (port_number (lent_of d (length rom)) port) (pad_set d.bench.machine port w)

unfoldable pub plug_call : List ℕ → Desk → ℕ → Bool → PlainOut
plug_call rom d port on = host_call d (port_number (lent_of d (length rom)) port) (plug_set d.bench.machine port on)

unfoldable pub answer_call : List ℕ → Desk → ℕ → ℕ → PlainOut
answer_call rom d addr byte = host_call d (address_number (lent_of d (length rom)) addr) (answer_set d.bench.machine addr byte)

-- ---- back and fresh

-- the newest entry restores machine and old bytes, and the sum follows them; no record byte is written
abbrev pub restored : Desk → Decoded → ℕ → Desk
restored d e slot =
    let ram = put_back e.olds d.ram in
    record {
      bench = bench e.machine slot (d.bench.kept - 1) d.bench.length (follows d.bench.sum d.ram ram);
      ram = ram;
      entries = d.entries;
    }

-- the newest entry stands in the slot before the next one
unfoldable pub back_call : Desk → PlainOut
back_call d =
    let slot = before (capacity d.bench.length) d.bench.slot in
    let e = decode_at d.entries slot in
    let n = back_number (lent_of d 0) d.bench.kept e.ok in
    pick (eqb n 0) (record { number = 0; desk = restored d e slot }) (record { number = n; desk = d })

-- power-on with an empty record
abbrev pub empty_bench : (room bitcycles sum : ℕ) → Bench
empty_bench room bitcycles sum = bench (power_on_machine bitcycles) 0 0 room sum

-- what a refused fresh has: bit cycles 1, record length 0 and sum 0
abbrev pub no_bench : Bench
no_bench = empty_bench 0 1 0

-- what a fresh gives
pub record FreshOut : Type 0 where
  pub number : ℕ
  pub bench : Bench

-- the same of what the code returns
abbrev pub fresh_out : Result Bench RefusedFresh → FreshOut
fresh_out (Ok b) = record { number = 0; bench = b }
fresh_out (Err x) = record { number = refusal_number x.refusal; bench = x.bench }

-- both banks are looked at: their lengths, then their sum
unfoldable pub fresh_call : (low high : List ℕ) → (room bitcycles : ℕ) → FreshOut
fresh_call low high room bitcycles =
    let n = fresh_number (length low) (length high) room bitcycles in
    pick (eqb n 0) (record { number = 0; bench = empty_bench room bitcycles (ram_sum (banks low high)) }) (record { number = n; bench = no_bench })
