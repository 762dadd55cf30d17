-- An entry and a line keep the DMA unit and what stands on the bus in their widths.
use Prim.Native.Nat.{ℕ, ◌%◌}
use mathlib.Core.Bool.{Bool}
use mathlib.Core.List.{List}
use mathlib.Core.Path.{◌∙◌}
use native.Mathlib.Omega.{arith}
use lib.Dec.{eqb}
use lib.ListN.{length-set}
use Rattle.common.proofs.{AllLaws.all_set, AllLaws.all_get_or, TableLaws.pick_elim}
use Rattle.bus.proofs.FitLaws.{channel-fits, with_channel-fits, FitWorld}
use Rattle.common.specs.Width.{Byte, Bytes}
use Rattle.registers.specs.Fit.{Long}
use Rattle.state.specs.Fit.{FitHdma, FitDma}
use Rattle.state.specs.{declared.Dma.Dma, declared.HdmaChannelState.HdmaChannelState, Hdma.no_hdma}
use Rattle.transfer.proofs.Adds.{sent-bytes}
use Rattle.transfer.proofs.FitLaws.{sent-fits, table_fits, das-fits}
use Rattle.transfer.specs.{Bits.flag_of, Table.table_read}
use Rattle.hdma.specs.Engine.{DmaWorld, hdma_at, set_hdma}
use Rattle.hdma.specs.Entry.{Reloaded, indirect_at, started, reloaded, counted, rewound, init_channel}
use Rattle.hdma.specs.Line.{line_channel}

-- the DMA unit and what stands on the bus are in their widths
pub record FitDmaWorld (m : DmaWorld) : Type 0 where
  pub world : FitWorld m.world
  pub dma : FitDma m.dma

record FitReload (r : Reloaded) : Type 0 where
  after : FitDmaWorld r.after
  wait : Byte r.wait

module _ {d : Dma} (f : FitDma d) (ch : ℕ) where
  hdma_fits : FitHdma (hdma_at d ch)
  hdma_fits = all_get_or FitHdma d.channels (ch % 8) no_hdma f.channels (omega arith)

  set-fits : {h : HdmaChannelState} {wait : ℕ} → FitHdma h → Long wait → FitDma (set_hdma d ch h wait)
  unfolding set_hdma
  set-fits {h} g l = record {
    wait = l;
    progress = f.progress;
    queue = f.queue;
    channels-length = length-set d.channels (ch % 8) h ∙ f.channels-length;
    channels = all_set FitHdma d.channels (ch % 8) h f.channels g;
  }

  counted-fits : {wait : ℕ} → Long wait → FitDma (counted d ch wait)
  unfolding counted
  counted-fits l = set-fits (omega arith) l

module _ (rom : List ℕ) (g : Bytes rom) {m : DmaWorld} (ch : ℕ) (f : FitDmaWorld m) where
  reload_fits : (ind : Bool) → FitReload (reloaded rom m ch ind)
  unfolding reloaded
  reload_fits ind =
      let r = table_fits rom g ch f.world in
      let h = hdma_fits f.dma ch in
      let n = (table_read rom m.world ch).byte in
      let new : FitDma (set_hdma m.dma ch (started (hdma_at m.dma ch) n) m.dma.wait) = set-fits f.dma ch (record { counter = r.byte }) f.dma.wait in
      pick_elim FitReload (flag_of (hdma_at m.dma ch).counter 0x7F) (record { after = f; wait = omega arith })
      (pick_elim FitReload (eqb n 0)
      (record { after = record { world = r.world; dma = set-fits f.dma ch (record { counter = h.counter }) (omega arith) }; wait = omega arith })
      (pick_elim FitReload ind (record { after = record { world = das-fits rom g ch r.world; dma = new }; wait = omega arith })
      (record { after = record { world = r.world; dma = new }; wait = omega arith })))

  pub init-fits : FitDmaWorld (init_channel rom m ch)
  unfolding init_channel
  init-fits =
      let c = channel-fits f.world ch in
      let w : FitWorld (rewound m.world ch) = with_channel-fits f.world ch (omega (arith, c)) in
      let r = table_fits rom g ch w in
      pick_elim FitDmaWorld (eqb (table_read rom (rewound m.world ch) ch).byte 0)
      (record { world = r.world; dma = set-fits f.dma ch (omega arith) (omega arith) })
      (pick_elim FitDmaWorld (indirect_at m ch)
      (record { world = das-fits rom g ch r.world; dma = set-fits f.dma ch (record { counter = r.byte }) (omega arith) })
      (record { world = r.world; dma = set-fits f.dma ch (record { counter = r.byte }) (omega arith) }))

module _ (rom : List ℕ) (g : Bytes rom) {m : DmaWorld} (ch : ℕ) (f : FitDmaWorld m) where
  pub line-fits : FitDmaWorld (line_channel rom m ch)
  unfolding line_channel
  line-fits =
      let ind = indirect_at m ch in
      let l = reloaded rom m ch ind in
      let x = reload_fits rom g ch f ind in
      let bytes = sent-bytes rom l.after.world ch ind in
      pick_elim FitDmaWorld (hdma_at m.dma ch).finished f
      (pick_elim FitDmaWorld l.stop x.after
      (pick_elim FitDmaWorld (hdma_at l.after.dma ch).transfer
      (record { world = sent-fits rom g ch ind x.after.world; dma = counted-fits x.after.dma ch (omega (arith, x.wait, bytes)) })
      (record { world = x.after.world; dma = counted-fits x.after.dma ch (omega (arith, x.wait)) })))
