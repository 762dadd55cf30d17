-- An entry and a line keep the ranges of the DMA unit: a line waits at most 23 + 4 * 8.
use Prim.Native.Nat.{ℕ, ◌≤◌}
use mathlib.Core.Bool.{Bool}
use mathlib.Core.List.{List}
use native.Mathlib.Omega.{arith}
use lib.Dec.{eqb}
use Rattle.common.proofs.TableLaws.{pick_elim}
use Rattle.state.proofs.Ranges.{DmaOk}
use Rattle.state.specs.declared.{Dma.Dma, HdmaChannelState.HdmaChannelState}
use Rattle.transfer.proofs.Adds.{sent-bytes}
use Rattle.transfer.specs.{Bits.flag_of, Table.table_read}
use Rattle.hdma.specs.Engine.{DmaWorld, hdma_at, set_hdma}
use Rattle.hdma.specs.Entry.{Reloaded, indirect_at, reloaded, counted, rewound, init_channel}
use Rattle.hdma.specs.Line.{line_channel}

abbrev Ok : DmaWorld → Type 0
Ok m = DmaOk m.dma

abbrev ReloadOk : Reloaded → Type 0
ReloadOk r = Ok r.after × (r.wait ≤ 23)

module _ {d : Dma} (ch : ℕ) {wait : ℕ} (f : DmaOk d) (l : wait ≤ 55) where
  set-ok : (h : HdmaChannelState) → DmaOk (set_hdma d ch h wait)
  unfolding set_hdma
  set-ok h = record { wait = l; progress = f.progress }

  counted-ok : DmaOk (counted d ch wait)
  unfolding counted
  counted-ok = set-ok _

module _ (rom : List ℕ) (m : DmaWorld) (ch : ℕ) (f : DmaOk m.dma) where
  reload_ok : (ind : Bool) → ReloadOk (reloaded rom m ch ind)
  unfolding reloaded
  reload_ok ind =
      pick_elim ReloadOk (flag_of (hdma_at m.dma ch).counter 0x7F) (f, omega arith)
      (pick_elim ReloadOk (eqb (table_read rom m.world ch).byte 0) (set-ok ch f (omega arith) _, omega arith)
      (pick_elim ReloadOk ind (set-ok ch f f.wait _, omega arith) (set-ok ch f f.wait _, omega arith)))

  pub init-ok : DmaOk (init_channel rom m ch).dma
  unfolding init_channel
  init-ok =
      pick_elim Ok (eqb (table_read rom (rewound m.world ch) ch).byte 0) (set-ok ch f (omega arith) _)
      (pick_elim Ok (indirect_at m ch) (set-ok ch f (omega arith) _) (set-ok ch f (omega arith) _))

module _ (rom : List ℕ) (m : DmaWorld) (ch : ℕ) (f : DmaOk m.dma) where
  pub line_ok : DmaOk (line_channel rom m ch).dma
  unfolding line_channel
  line_ok =
      let ind = indirect_at m ch in
      let l = reloaded rom m ch ind in
      let g = reload_ok rom m ch f ind in
      let bytes = sent-bytes rom l.after.world ch ind in
      pick_elim Ok (hdma_at m.dma ch).finished f
      (pick_elim Ok l.stop g.0
      (pick_elim Ok (hdma_at l.after.dma ch).transfer (counted-ok ch g.0 (omega (arith, g.1, bytes))) (counted-ok ch g.0 (omega (arith, g.1)))))
