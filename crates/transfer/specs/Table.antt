-- The bytes of a channel's HDMA table (src/dma.rs, hdma_read_table).
use Rattle.std.specs.Prelude.{ℕ, List}
use Rattle.common.specs.Word.{word}
use Rattle.bus.specs.View.{channel_of, with_channel, with_core}
use Rattle.bus.specs.World.{World, Reading, read_at}
use Rattle.registers.specs.Groups.{with_dma_channel_a2a, with_dma_channel_das}
use Rattle.transfer.specs.Bits.{up}

-- A2A steps before the byte at its old place is read: a table in the channel's own registers sees the new one
unfoldable pub table_read : List ℕ → World → ℕ → Reading
table_read rom w ch =
    let c = channel_of w.core ch in
    read_at rom (with_core w (with_channel w.core ch (with_dma_channel_a2a c (up 65536 c.a2a)))) c.a1b c.a2a

-- DAS of a channel set
abbrev pub set_das : World → ℕ → ℕ → World
set_das w ch v = with_core w (with_channel w.core ch (with_dma_channel_das (channel_of w.core ch) v))

-- the indirect address: two bytes of the table, low byte first, go to DAS
unfoldable pub das_loaded : List ℕ → World → ℕ → World
das_loaded rom w ch =
    let r = table_read rom w ch in
    let s = table_read rom r.world ch in
    set_das s.world ch (word r.byte s.byte)
