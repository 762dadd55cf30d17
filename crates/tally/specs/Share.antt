-- What an operation adds to the figures, and the totals with it: of 29 places at most five change (a channel's three, a state's, and all).
use Rattle.std.specs.Prelude.{ℕ, ◌+◌, ◌-◌, ◌%◌, ◌^◌, Bool, ◌||◌, List, ◌==◌, slice_index, slice_set}
use mir.Val.{bool_byte}
use Rattle.common.specs.Pick.{pick}
use Rattle.bus.specs.{Access.accesses_of, Access.Log}
use Rattle.state.specs.declared.DmaState.{DmaState}
use Rattle.touch.specs.declared.who.Who.{Who}
use Rattle.touch.specs.declared.who.Who.TheVariants.{Cpu, Dma as General, Hdma}
use Rattle.totals.specs.Limit.{passes_at}
use Rattle.tally.specs.Figure.{Made, writes, reads, state_number}
use Rattle.tally.specs.declared.share.Share.{Share}

-- an operation by what a call answers
abbrev pub made_by : Who → Bool → DmaState → Log → Made
made_by who held after log = record { who = who; held = held; after = after; accesses = accesses_of log }

-- by its fields
abbrev pub share : (channel general units table state held : ℕ) → Share
share channel general units table state held = record { channel = channel; general = general; units = units; table = table; state = state; held = held }

-- the channel that had the bus, its bytes, units and table bytes
abbrev pub share_by : Who → (written read state held : ℕ) → Share
share_by Cpu written read state held = share 0 0 0 0 state held
share_by (General c) written read state held = share (c % 8) written 0 0 state held
share_by (Hdma c) written read state held = share (c % 8) 0 (pick (written == 0) 0 1) (read - written) state held

-- an operation's share
unfoldable pub share_of : Made → Share
share_of m = share_by m.who (writes m.accesses) (reads m.accesses) (state_number m.after) (bool_byte m.held)

-- a total with so much more
abbrev pub more : ℕ → ℕ → List ℕ → List ℕ
more i x l = slice_set l i (x + slice_index l i)

-- the same in 64 bits
abbrev pub wrapped : ℕ → ℕ → List ℕ → List ℕ
wrapped i x l = slice_set l i ((x + slice_index l i) % 2 ^ 64)

-- it would pass 2^64 - 1
abbrev pub passes : ℕ → ℕ → List ℕ → Bool
passes i x l = passes_at (slice_index l i) x

-- any of the five would
unfoldable pub passing : Share → List ℕ → Bool
passing s l =
    passes (s.channel % 8) s.general l || (passes (s.channel % 8 + 8) s.units l || (passes (s.channel % 8 + 16) s.table l
    || (passes (s.state % 4 + 24) s.held l || passes 28 s.held l)))

-- the five totals with a share
unfoldable pub raised : Share → List ℕ → List ℕ
raised s l =
    more 28 s.held (more (s.state % 4 + 24) s.held
    (more (s.channel % 8 + 16) s.table (more (s.channel % 8 + 8) s.units (more (s.channel % 8) s.general l))))

-- the refusal or 0, and the totals
pub record Counted : Type 0 where
  pub number : ℕ
  pub totals : List ℕ

-- by its fields
abbrev pub counted : ℕ → List ℕ → Counted
counted n l = record { number = n; totals = l }

-- one operation more: 13 where a total would pass 2^64 - 1, and then none changes
unfoldable pub count_call : List ℕ → Share → Counted
count_call l s = pick (passing s l) (counted 13 l) (counted 0 (raised s l))
