-- Document 02, 5/12: a whole transfer in one sentence.
use Rattle.std.specs.Prelude.{ℕ, ◌+◌, ◌≤◌, ◌<◌, ◌^◌, Bool, true, false, List, ◌≢◌, ◌≡◌, length, None}
use Rattle.common.specs.{All.AllOf, Pick.pick}
use Rattle.bench.specs.Calls.{Desk, lent_of}
use Rattle.bus.specs.declared.access.Access.{Access}
use Rattle.machine.specs.Plain.{begin, plain, held_at}
use Rattle.registers.specs.declared.channel.DmaChannel.{DmaChannel}
use Rattle.rewind.specs.Run.{TypedDesk}
use Rattle.state.specs.Fit.{FitMachine}
use Rattle.state.specs.declared.{DmaState.TheVariants.Idle, Machine.Machine}
use Rattle.wram.specs.Banks.{Banks}
use Rattle.loads.specs.Calls.{asked, calls, answered}
use Rattle.loads.specs.Load.{bit, channel_at, channels_of, many, a1t_at, ways_of, carried, holds, finished, registers}

-- no byte's address on the A side is in the registers
abbrev pub Clear : DmaChannel → Type 0
Clear c = (i : ℕ) → i < many c → registers c.a1b (a1t_at c i) ≡ false

-- what is supposed
pub record Ready (m : Machine) : Type 0 where
  -- DMA idle with wait 0: a start sets both, so they are needed only for the unit to end as it was
  pub idle : m.dma.state ≡ Idle
  pub wait_0 : m.dma.wait ≡ 0
  -- nothing running, no progress and no HDMA pending
  pub not-running : m.dma.running ≡ false
  pub no_progress : m.dma.progress ≡ None
  pub none-pending : m.dma.pending ≡ false
  -- HDMAEN 0: not needed, since with no line due and no frame start no pass becomes pending; with it, in turn, events, lines due and timers would
  -- not matter to the unit
  pub hdmaen_0 : m.io.enables.hdmaen ≡ 0
  -- at least one MDMAEN bit
  pub some : m.io.enables.mdmaen ≢ 0
  -- the clock stays clear of its end: the rules do not need it, the calls do
  pub clock : m.board.clock + holds m + 1 < 2 ^ 64
  -- no A address in $2000-$5FFF of a system bank
  pub clear : AllOf Clear (channels_of m.io.channels m.io.enables.mdmaen)

-- the request's sentence, of cycles from m: whether each is held, counted from 0, the machine after the formula's, and the accesses of these
pub record Loaded (m : Machine) (held : ℕ → Bool) (end : Machine) (made : List Access) : Type 0 where
  -- each of the formula's cycles is held, and the one after them is not
  pub each : (i : ℕ) → i < holds m → held i ≡ true
  pub then : held (holds m) ≡ false
  -- eight channels still: the selected ones are finished, all others as they were
  pub eight : length end.io.channels ≡ 8
  pub channels : (ch : ℕ) → ch < 8 → channel_at end.io.channels ch
      ≡ pick (bit m.io.enables.mdmaen ch) (finished (channel_at m.io.channels ch)) (channel_at m.io.channels ch)
  -- MDMAEN is 0, and the unit is as it was: idle
  pub enable : end.io.enables.mdmaen ≡ 0
  pub unit : end.dma ≡ m.dma
  -- the accesses are the pattern's, lowest channel first, each write with the byte of its read
  pub bytes : List ℕ
  pub number : length bytes ≡ length (ways_of (channels_of m.io.channels m.io.enables.mdmaen))
  pub accesses : made ≡ carried (ways_of (channels_of m.io.channels m.io.enables.mdmaen)) bytes

-- over the rules, one cycle after the other
abbrev pub LoadedByRules : List ℕ → Machine → Banks → Type 0
LoadedByRules rom m ram = let s = begin m ram in Loaded m (λ i. held_at rom i s) (plain rom (holds m) s).machine (plain rom (holds m) s).made

-- over the public calls: all of them are accepted, they answer so, and leave what the rules leave
pub record LoadedByCalls (rom : List ℕ) (d : Desk) : Type 0 where
  pub accepted : (i : ℕ) → i ≤ holds d.bench.machine → (asked rom (calls rom i d)).number ≡ 0
  pub answers : Loaded d.bench.machine (λ i. (asked rom (calls rom i d)).held) (calls rom (holds d.bench.machine) d).bench.machine (answered rom (holds d.bench.machine) d)
  pub machine : (i : ℕ) → i ≤ holds d.bench.machine + 1 → (calls rom i d).bench.machine ≡ (plain rom i (begin d.bench.machine d.ram)).machine
  pub ram : (i : ℕ) → i ≤ holds d.bench.machine + 1 → (calls rom i d).ram ≡ (plain rom i (begin d.bench.machine d.ram)).ram

-- of every machine of the code's types that is ready, with any ROM and any banks
abbrev pub WholeTransfer : Type 0
WholeTransfer = (rom : List ℕ) (m : Machine) (ram : Banks) → FitMachine m → Ready m → LoadedByRules rom m ram

-- and by the calls on every desk of these types on which nothing lent is refused
abbrev pub WholeTransferCalled : Type 0
WholeTransferCalled = (rom : List ℕ) (d : Desk) → TypedDesk rom d → lent_of d (length rom) ≡ 0 → Ready d.bench.machine → LoadedByCalls rom d
