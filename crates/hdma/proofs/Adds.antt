-- What an entry and a line add: at most 3 table reads, and 8 accesses and 4 old bytes of a unit.
use Prim.Native.Nat.{ℕ}
use mathlib.Core.Bool.{Bool}
use mathlib.Core.List.{List}
use native.Mathlib.Omega.{arith}
use lib.Dec.{eqb}
use Rattle.common.proofs.TableLaws.{pick_elim}
use Rattle.bus.proofs.Adds.{Adds, adds_none, adds_trans, adds-more, channel-adds}
use Rattle.transfer.proofs.Adds.{table-adds, das-adds, sent-adds}
use Rattle.transfer.specs.{Bits.flag_of, Table.table_read}
use Rattle.hdma.specs.{Engine.DmaWorld, Engine.hdma_at, Line.line_channel}
use Rattle.hdma.specs.Entry.{Reloaded, indirect_at, reloaded, rewound, init_channel}

module _ (rom : List ℕ) (m : DmaWorld) (ch : ℕ) where
  pub reload_adds : (ind : Bool) → Adds 3 0 m.world (reloaded rom m ch ind).after.world
  unfolding reloaded
  reload_adds ind =
      let P : Reloaded → Type 0 = λ (r : Reloaded). Adds 3 0 m.world r.after.world in
      let r = table_read rom m.world ch in
      let t = table-adds rom m.world ch in
      let one = adds-more 3 0 t (omega arith) (omega arith) in
      pick_elim P (flag_of (hdma_at m.dma ch).counter 0x7F) (adds-more 3 0 (adds_none m.world) (omega arith) (omega arith))
      (pick_elim P (eqb r.byte 0) one (pick_elim P ind (adds_trans t (das-adds rom r.world ch)) one))

  pub init-adds : Adds 3 0 m.world (init_channel rom m ch).world
  unfolding init_channel
  init-adds =
      let P : DmaWorld → Type 0 = λ (r : DmaWorld). Adds 3 0 m.world r.world in
      let r = table_read rom (rewound m.world ch) ch in
      let t : Adds 1 0 m.world r.world = adds_trans (channel-adds m.world ch _) (table-adds rom (rewound m.world ch) ch) in
      let one = adds-more 3 0 t (omega arith) (omega arith) in
      pick_elim P (eqb r.byte 0) one (pick_elim P (indirect_at m ch) (adds_trans t (das-adds rom r.world ch)) one)

module _ (rom : List ℕ) (m : DmaWorld) (ch : ℕ) where
  pub line-adds : Adds 11 4 m.world (line_channel rom m ch).world
  unfolding line_channel
  line-adds =
      let P : DmaWorld → Type 0 = λ (r : DmaWorld). Adds 11 4 m.world r.world in
      let ind = indirect_at m ch in
      let l = reloaded rom m ch ind in
      let x = reload_adds rom m ch ind in
      let entry = adds-more 11 4 x (omega arith) (omega arith) in
      pick_elim P (hdma_at m.dma ch).finished (adds-more 11 4 (adds_none m.world) (omega arith) (omega arith))
      (pick_elim P l.stop entry (pick_elim P (hdma_at l.after.dma ch).transfer (adds_trans x (sent-adds rom l.after.world ch ind)) entry))
