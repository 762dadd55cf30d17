-- An entry and a line of a channel: WMADD and work RAM go with their accesses.
use Prim.Native.Nat.{ℕ}
use mathlib.Core.Bool.{Bool}
use mathlib.Core.List.{List}
use native.Mathlib.Omega.{arith}
use lib.Dec.{eqb}
use Rattle.common.proofs.TableLaws.{pick_elim}
use Rattle.transfer.specs.{Bits.flag_of, Table.table_read}
use Rattle.hdma.specs.{Engine.DmaWorld, Engine.hdma_at, Line.line_channel}
use Rattle.hdma.specs.Entry.{Reloaded, indirect_at, reloaded, rewound, init_channel}
use Rattle.followed.proofs.Accesses.{Follows, follows-none, follows_trans, follows-more, channel-follows}
use Rattle.followed.proofs.Moves.{table-follows, das-follows, sent-follows}

module _ (rom : List ℕ) (m : DmaWorld) (ch : ℕ) where
  pub reload_follows : (ind : Bool) → Follows 3 m.world (reloaded rom m ch ind).after.world
  unfolding reloaded
  reload_follows ind =
      let P : Reloaded → Type 0 = λ (r : Reloaded). Follows 3 m.world r.after.world in
      let r = table_read rom m.world ch in
      let t = table-follows rom m.world ch in
      let one = follows-more 3 t (omega arith) in
      pick_elim P (flag_of (hdma_at m.dma ch).counter 0x7F) (follows-more 3 (follows-none m.world) (omega arith))
      (pick_elim P (eqb r.byte 0) one (pick_elim P ind (follows_trans t (das-follows rom r.world ch)) one))

  pub init-follows : Follows 3 m.world (init_channel rom m ch).world
  unfolding init_channel
  init-follows =
      let P : DmaWorld → Type 0 = λ (r : DmaWorld). Follows 3 m.world r.world in
      let r = table_read rom (rewound m.world ch) ch in
      let t : Follows 1 m.world r.world = follows_trans (channel-follows m.world ch _) (table-follows rom (rewound m.world ch) ch) in
      let one = follows-more 3 t (omega arith) in
      pick_elim P (eqb r.byte 0) one (pick_elim P (indirect_at m ch) (follows_trans t (das-follows rom r.world ch)) one)

module _ (rom : List ℕ) (m : DmaWorld) (ch : ℕ) where
  pub line-follows : Follows 11 m.world (line_channel rom m ch).world
  unfolding line_channel
  line-follows =
      let P : DmaWorld → Type 0 = λ (r : DmaWorld). Follows 11 m.world r.world in
      let ind = indirect_at m ch in
      let l = reloaded rom m ch ind in
      let x = reload_follows rom m ch ind in
      let entry = follows-more 11 x (omega arith) in
      pick_elim P (hdma_at m.dma ch).finished (follows-more 11 (follows-none m.world) (omega arith))
      (pick_elim P l.stop entry (pick_elim P (hdma_at l.after.dma ch).transfer (follows_trans x (sent-follows rom l.after.world ch ind)) entry))
