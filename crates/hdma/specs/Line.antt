-- A line of one channel (src/dma.rs, hdma_line_channel).
use Rattle.std.specs.Prelude.{ℕ, ◌+◌, ◌*◌, Bool, List}
use Rattle.common.specs.Pick.{pick}
use Rattle.transfer.specs.Unit.{SentUnit, unit_sent}
use Rattle.hdma.specs.Engine.{DmaWorld, at, hdma_at}
use Rattle.hdma.specs.Entry.{Reloaded, indirect_at, reloaded, counted}

-- the counter after a unit of so many bytes
abbrev pub on_line : Reloaded → SentUnit → ℕ → DmaWorld
on_line l s ch = at s.world (counted l.after.dma ch (l.wait + s.bytes * 8))

-- after the reload: the table may have ended; else the unit, where one is due, and the counter
abbrev pub line_from : List ℕ → Reloaded → ℕ → Bool → DmaWorld
line_from rom l ch ind =
    pick l.stop l.after
    (pick (hdma_at l.after.dma ch).transfer (on_line l (unit_sent rom l.after.world ch ind) ch)
    (at l.after.world (counted l.after.dma ch (l.wait + 0 * 8))))

-- a finished channel does nothing, and costs the one cycle of its turn
unfoldable pub line_channel : List ℕ → DmaWorld → ℕ → DmaWorld
line_channel rom m ch =
    pick (hdma_at m.dma ch).finished m (line_from rom (reloaded rom m ch (indirect_at m ch)) ch (indirect_at m ch))
