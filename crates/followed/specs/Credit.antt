-- Whose work a cycle's accesses are: whoever a listing names made all of them (src/dma.rs, update_dma_cycles).
use Rattle.std.specs.Prelude.{ℕ, List, ◌⊎◌, ◌≡◌, Option, None, Some}
use Rattle.bus.specs.World.{World}
use Rattle.dma.specs.Pass.{unqueued}
use Rattle.hdma.specs.{Engine.at, Entry.init_channel, Line.line_channel}
use Rattle.state.specs.declared.{Dma.Dma, DmaProgress.DmaProgress}
use Rattle.touch.specs.declared.who.Who.{Who}
use Rattle.touch.specs.declared.who.Who.TheVariants.{Cpu, Dma as General, Hdma}
use Rattle.transfer.specs.Byte.{transfer_byte}

-- the bus has done in v what it has done in w: the same accesses, the same work RAM
pub record Done (v w : World) : Type 0 where
  pub log : v.core.log ≡ w.core.log
  pub ram : v.ram ≡ w.ram

-- the number of the byte that a transfer is at
abbrev pub unit_of : Option DmaProgress → ℕ
unit_of None = 0
unit_of (Some p) = p.unit

-- from w to v: nothing by the CPU's cycle; nothing or one byte of a transfer; nothing or the turn of a channel, its first entry or a line
abbrev pub CreditedAt : List ℕ → World → Dma → ℕ → Who → World → Type 0
CreditedAt rom w d u Cpu v = Done v w
CreditedAt rom w d u (General ch) v = Done v w ⊎ Done v (transfer_byte rom w ch u)
CreditedAt rom w d u (Hdma ch) v =
    Done v w ⊎ (Done v (init_channel rom (unqueued (at w d)) ch).world ⊎ Done v (line_channel rom (unqueued (at w d)) ch).world)

abbrev pub Credited : List ℕ → World → Dma → Who → World → Type 0
Credited rom w d who v = CreditedAt rom w d (unit_of d.progress) who v
