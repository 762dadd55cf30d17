-- Table entries (src/dma.rs, hdma_init_channel and the first half of hdma_line_channel; Fullsnes, "HDMA table"). Waits are costs less one.
use Rattle.std.specs.Prelude.{ℕ, Bool, true, false, not, List, eqb, is_none}
use Rattle.std.specs.Option.{unwrap_or}
use Rattle.common.specs.Pick.{pick}
use Rattle.bus.specs.View.{channel_of, with_channel, with_core}
use Rattle.bus.specs.World.{World, Reading}
use Rattle.registers.specs.Groups.{with_dma_channel_a2a}
use Rattle.state.specs.declared.{Dma.Dma, HdmaChannelState.HdmaChannelState}
use Rattle.transfer.specs.{Bits.flag_of, Bits.down, Table.table_read, Table.das_loaded}
use Rattle.hdma.specs.Engine.{DmaWorld, at, hdma_at, set_hdma}

-- DMAP bit 6: the table gives addresses
abbrev pub indirect_at : DmaWorld → ℕ → Bool
indirect_at m ch = flag_of (channel_of m.world.core ch).dmap 0x40

-- what reading an entry leaves: the wait so far, and whether the table has ended
pub record Reloaded : Type 0 where
  pub after : DmaWorld
  pub wait : ℕ
  pub stop : Bool

-- the table has ended
abbrev pub ended : HdmaChannelState → HdmaChannelState
ended h = record { counter = h.counter; transfer = h.transfer; finished = true }

-- a new counter transfers on this line
abbrev pub started : HdmaChannelState → ℕ → HdmaChannelState
started h n = record { counter = n; transfer = true; finished = h.finished }

-- counter 0 finishes the channel; an indirect channel reads its address, for 16 more
abbrev pub entry : List ℕ → DmaWorld → Reading → ℕ → Bool → Reloaded
entry rom m r ch ind =
    let h = hdma_at m.dma ch in
    pick (eqb r.byte 0) (record { after = at r.world (set_hdma m.dma ch (ended h) 7); wait = 7; stop = true })
    (pick ind (record { after = at (das_loaded rom r.world ch) (set_hdma m.dma ch (started h r.byte) m.dma.wait); wait = 23; stop = false })
    (record { after = at r.world (set_hdma m.dma ch (started h r.byte) m.dma.wait); wait = 7; stop = false }))

-- with low seven bits 0 a line reads a new counter first: so a $80 that a frame begins with is read past, and one met later transfers twice
unfoldable pub reloaded : List ℕ → DmaWorld → ℕ → Bool → Reloaded
reloaded rom m ch ind =
    pick (flag_of (hdma_at m.dma ch).counter 0x7F) (record { after = m; wait = 7; stop = false })
    (entry rom m (table_read rom m.world ch) ch ind)

-- the counter goes down; the next line transfers where bit 7 was set or the low seven bits are now 0
unfoldable pub counted : Dma → ℕ → ℕ → Dma
counted d ch wait =
    let h = hdma_at d ch in
    set_hdma d ch (record {
      counter = down 256 h.counter;
      transfer = pick (flag_of h.counter 0x80) true (not (flag_of (down 256 h.counter) 0x7F));
      finished = h.finished;
    }) wait

-- the table pointer at the table's start
abbrev pub rewound : World → ℕ → World
rewound w ch =
    let c = channel_of w.core ch in with_core w (with_channel w.core ch (with_dma_channel_a2a c c.a1t))

-- the entry of a frame's start: the channel's state begins anew
abbrev pub first_entry : List ℕ → Dma → Reading → ℕ → Bool → DmaWorld
first_entry rom d r ch ind =
    pick (eqb r.byte 0) (at r.world (set_hdma d ch (record { counter = 0; transfer = false; finished = true }) 7))
    (pick ind (at (das_loaded rom r.world ch) (set_hdma d ch (record { counter = r.byte; transfer = true; finished = false }) 23))
    (at r.world (set_hdma d ch (record { counter = r.byte; transfer = true; finished = false }) 7)))

-- once a frame: the first entry, 8 for a direct channel and 24 for an indirect one. Indirect is judged before the table is read
unfoldable pub init_channel : List ℕ → DmaWorld → ℕ → DmaWorld
init_channel rom m ch = first_entry rom m.dma (table_read rom (rewound m.world ch) ch) ch (indirect_at m ch)
