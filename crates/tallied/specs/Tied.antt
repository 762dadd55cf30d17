-- What the figures of a cycle say of what was done on the bus, in the cases of `CreditedAt` (followed/specs/Credit.antt).
use Rattle.std.specs.Prelude.{ℕ, ◌%◌, Bool, List, [], ◌⊎◌, ◌≡◌, eqb}
use Rattle.common.specs.Pick.{pick}
use Rattle.bus.specs.World.{World}
use Rattle.dma.specs.Pass.{unqueued}
use Rattle.followed.specs.Credit.{Done, unit_of}
use Rattle.hdma.specs.{Engine.DmaWorld, Engine.at, Engine.hdma_at, Line.line_channel}
use Rattle.hdma.specs.Entry.{indirect_at, reloaded, rewound, init_channel}
use Rattle.machine.specs.Cycle.{Turned}
use Rattle.state.specs.declared.{Dma.Dma, Machine.Machine}
use Rattle.touch.specs.Who.{who_of}
use Rattle.touch.specs.declared.who.Who.{Who}
use Rattle.touch.specs.declared.who.Who.TheVariants.{Cpu, Dma as General, Hdma}
use Rattle.transfer.specs.{Bits.flag_of, Byte.transfer_byte, Table.table_read}
use Rattle.tally.specs.{Figure.Made, Figure.general_bytes, Figure.hdma_units, Figure.table_bytes, Share.made_by}

-- a cycle of a machine as it is counted
abbrev pub cycle_made : Machine → Turned → Made
cycle_made m t = made_by (who_of m.dma) t.held t.after.dma.state t.after.world.core.log

-- n of one channel, 0 of every other
abbrev pub only : ℕ → ℕ → ℕ → ℕ
only ch n c = pick (eqb (ch % 8) c) n 0

-- 0 of every channel
abbrev pub none : ℕ → ℕ
none c = 0

-- the figures of every channel: g gives its bytes of general transfers, u its units, t its table bytes
pub record Says (g u t : ℕ → ℕ) (m : Made) : Type 0 where
  pub general : (c : ℕ) → general_bytes c m ≡ g c
  pub units : (c : ℕ) → hdma_units c m ≡ u c
  pub table : (c : ℕ) → table_bytes c m ≡ t c

-- the table bytes of an entry: its counter, and two of an address where the channel is indirect and the counter is not 0
abbrev pub entry_bytes : Bool → ℕ → ℕ
entry_bytes ind counter = pick (eqb counter 0) 1 (pick ind 3 1)

-- the table bytes of the first entry of a frame
abbrev pub first_bytes : List ℕ → DmaWorld → ℕ → ℕ
first_bytes rom m ch = entry_bytes (indirect_at m ch) (table_read rom (rewound m.world ch) ch).byte

-- the table bytes before a line's unit: none where the counter goes on, else those of an entry
abbrev pub reload_bytes : List ℕ → DmaWorld → ℕ → ℕ
reload_bytes rom m ch =
    pick (flag_of (hdma_at m.dma ch).counter 0x7F) 0 (entry_bytes (indirect_at m ch) (table_read rom m.world ch).byte)

-- the table bytes of a line: a finished channel reads none
abbrev pub line_bytes : List ℕ → DmaWorld → ℕ → ℕ
line_bytes rom m ch = pick (hdma_at m.dma ch).finished 0 (reload_bytes rom m ch)

-- the units of a line: one where the channel is not finished, its table has not ended, and the line is one that transfers
abbrev pub line_units : List ℕ → DmaWorld → ℕ → ℕ
line_units rom m ch =
    let l = reloaded rom m ch (indirect_at m ch) in
    pick (hdma_at m.dma ch).finished 0 (pick l.stop 0 (pick (hdma_at l.after.dma ch).transfer 1 0))

-- nothing was done on the bus: there is no access, and the figures of every channel are 0
pub record Quiet (v w : World) (m : Made) : Type 0 where
  pub done : Done v w
  pub accesses : m.accesses ≡ []
  pub says : Says none none none m

-- a channel's turn that led to x: so many units and table bytes are counted for it, and nothing else
abbrev pub Served : World → World → ℕ → ℕ → ℕ → Made → Type 0
Served v x ch units table m = Done v x × Says none (only ch units) (only ch table) m

-- from w to v, counted as m: nothing by the CPU's cycle; nothing or one byte of a transfer; nothing or the turn of a channel, its first entry or a line
abbrev pub TiedAt : List ℕ → World → Dma → ℕ → Who → World → Made → Type 0
TiedAt rom w d u Cpu v m = Quiet v w m
TiedAt rom w d u (General ch) v m = Quiet v w m ⊎ (Done v (transfer_byte rom w ch u) × Says (only ch 1) none none m)
TiedAt rom w d u (Hdma ch) v m =
    let b = unqueued (at w d) in
    Quiet v w m
    ⊎ (Served v (init_channel rom b ch).world ch 0 (first_bytes rom b ch) m
    ⊎ Served v (line_channel rom b ch).world ch (line_units rom b ch) (line_bytes rom b ch) m)

-- the same with the byte that the transfer is at
abbrev pub Tied : List ℕ → DmaWorld → Who → World → Made → Type 0
Tied rom b who v m = TiedAt rom b.world b.dma (unit_of b.dma.progress) who v m
