-- The figures of a run (document 02, 4/12), each with its own definition over the list of accepted operations and their accesses.
use Rattle.std.specs.Prelude.{ℕ, ◌+◌, ◌-◌, ◌%◌, Bool, false, List, [], ◌∷◌, ◌++◌, map, length, ◌==◌}
use mir.Val.{bool_byte}
use Rattle.common.specs.Pick.{pick}
use Rattle.bus.specs.declared.access.Access.{Access}
use Rattle.state.specs.declared.DmaState.{DmaState}
use Rattle.state.specs.declared.DmaState.TheVariants as phase
use Rattle.touch.specs.declared.who.Who.{Who}
use Rattle.touch.specs.declared.who.Who.TheVariants.{Cpu, Dma as General, Hdma}

-- an accepted operation: who had the bus, whether the processor was held, the DMA state after it, its accesses in order
pub record Made : Type 0 where
  pub who : Who
  pub held : Bool
  pub after : DmaState
  pub accesses : List Access

-- how many of the accesses are writes
unfoldable pub writes : List Access → ℕ
writes [] = 0
writes (a ∷ l) = bool_byte a.write + writes l

-- the others are reads
abbrev pub reads : List Access → ℕ
reads l = length l - writes l

-- a general transfer of that channel had the bus; a channel's number counts modulo 8, as the unit takes it
abbrev pub by_general : ℕ → Who → Bool
by_general ch Cpu = false
by_general ch (General c) = c % 8 == ch
by_general ch (Hdma c) = false

-- a pass served that channel
abbrev pub by_hdma : ℕ → Who → Bool
by_hdma ch Cpu = false
by_hdma ch (General c) = false
by_hdma ch (Hdma c) = c % 8 == ch

-- the number of a DMA state
abbrev pub state_number : DmaState → ℕ
state_number phase.Idle = 0
state_number phase.Startup = 1
state_number phase.Dma = 2
state_number phase.Hdma = 3

-- general bytes moved by a channel: each is written once
abbrev pub general_bytes : ℕ → Made → ℕ
general_bytes ch m = pick (by_general ch m.who) (writes m.accesses) 0

-- HDMA units moved by a channel: one where a unit went, whatever its length; only a unit writes
abbrev pub hdma_units : ℕ → Made → ℕ
hdma_units ch m = pick (by_hdma ch m.who) (pick (writes m.accesses == 0) 0 1) 0

-- table bytes read by a channel: a unit's byte is read and written, a table's is read
abbrev pub table_bytes : ℕ → Made → ℕ
table_bytes ch m = pick (by_hdma ch m.who) (reads m.accesses - writes m.accesses) 0

-- held, with that DMA state after the cycle
abbrev pub held_in : ℕ → Made → ℕ
held_in state m = pick m.held (pick (state_number m.after == state) 1 0) 0

-- held at all
abbrev pub held_all : Made → ℕ
held_all m = pick m.held 1 0

-- the channels, and the states: idle, startup, dma, hdma
abbrev pub channels : List ℕ
channels = 0 ∷ 1 ∷ 2 ∷ 3 ∷ 4 ∷ 5 ∷ 6 ∷ 7 ∷ []

abbrev pub states : List ℕ
states = 0 ∷ 1 ∷ 2 ∷ 3 ∷ []

-- a figure over the operations
unfoldable pub over : (Made → ℕ) → List Made → ℕ
over f [] = 0
over f (m ∷ l) = f m + over f l

-- a figure of each channel, of each state
abbrev pub by_channel : (ℕ → Made → ℕ) → List Made → List ℕ
by_channel f l = map (λ (ch : ℕ). over (f ch) l) channels

abbrev pub by_state : List Made → List ℕ
by_state l = map (λ (state : ℕ). over (held_in state) l) states

-- all 29, in the order that they are printed in
unfoldable pub figures_of : List Made → List ℕ
figures_of l = by_channel general_bytes l ++ by_channel hdma_units l ++ by_channel table_bytes l ++ by_state l ++ over held_all l ∷ []
