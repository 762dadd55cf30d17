-- The operations and what demand 2's rules make of each: machine and both banks, with no record beside them.
use Rattle.std.specs.Prelude.{ℕ, Bool, List, [], ◌∷◌}
use Rattle.bench.specs.Calls.{event_of}
use Rattle.bench.specs.Host.{with_io, pad_set, plug_set, answer_set}
use Rattle.bus.specs.Access.{opened}
use Rattle.bus.specs.World.{World, read_at, write_at}
use Rattle.machine.specs.Cycle.{Turned, machine_after, cycled}
use Rattle.common.specs.Width.{Byte, Word}
use Rattle.state.specs.declared.Machine.{Machine}
use Rattle.wram.specs.Olds.{Olds}
use Rattle.wram.specs.{Banks.Banks, Olds.no_olds}

-- an operation with its arguments
pub data Op : Type 0 where
  cycle : (event : ℕ) (line timer : Bool) → Op
  read : (bank addr : ℕ) → Op
  write : (bank addr byte : ℕ) → Op
  pad : (port word : ℕ) → Op
  plug : (port : ℕ) (on : Bool) → Op
  answer : (addr byte : ℕ) → Op

-- the arguments are u8 and u16, as the calls take them; nothing else is asked of them
abbrev pub Typed : Op → Type 0
Typed (cycle event line timer) = Byte event
Typed (read bank addr) = Byte bank × Word addr
Typed (write bank addr byte) = Byte bank × Word addr × Byte byte
Typed (pad port w) = Byte port × Word w
Typed (plug port on) = Byte port
Typed (answer addr byte) = Word addr × Byte byte

-- demand 3's state: registers, transfer state, ports and clock, and both banks
pub record State : Type 0 where
  pub machine : Machine
  pub ram : Banks

-- the state that an operation leaves, and the bytes of work RAM that it overwrote
pub record Done : Type 0 where
  pub state : State
  pub olds : Olds

-- what a cycle leaves
abbrev pub turned : Turned → Done
turned t = record { state = record { machine = machine_after t; ram = t.after.world.ram }; olds = t.after.world.core.olds }

-- the world of the bus as an operation finds it
abbrev pub world : State → World
world s = record { core = opened s.machine.io; ram = s.ram }

-- what an access leaves
abbrev pub accessed : State → World → Done
accessed s w = record { state = record { machine = with_io s.machine w.core.io; ram = w.ram }; olds = w.core.olds }

-- what the host's changes leave: work RAM as it was
abbrev pub changed : State → Machine → Done
changed s m = record { state = record { machine = m; ram = s.ram }; olds = no_olds }

-- an operation, by demand 2's rules
unfoldable pub obeyed : List ℕ → Op → State → Done
obeyed rom (cycle event line timer) s = turned (cycled rom s.machine s.ram.low s.ram.high (event_of event) line timer)
obeyed rom (read bank addr) s = accessed s (read_at rom (world s) bank addr).world
obeyed rom (write bank addr byte) s = accessed s (write_at (world s) bank addr byte)
obeyed rom (pad port w) s = changed s (pad_set s.machine port w)
obeyed rom (plug port on) s = changed s (plug_set s.machine port on)
obeyed rom (answer addr byte) s = changed s (answer_set s.machine addr byte)

-- operations one after another, by the rules alone
unfoldable pub obeyed_all : List ℕ → State → List Op → State
obeyed_all rom s [] = s
obeyed_all rom s (o ∷ os) = obeyed_all rom (obeyed rom o s).state os
