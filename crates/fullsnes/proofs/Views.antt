-- The HDMA state of a channel is what was last put there.
use Prim.Native.Nat.{ℕ, ◌%◌}
use mathlib.Core.Path.{◌≡◌, ◌∙◌}
use native.Mathlib.Omega.{arith}
use lib.ListN.{length, length-set}
use lib.Seq.{get_or-set_same}
use Rattle.hdma.specs.Engine.{hdma_at, set_hdma}
use Rattle.state.specs.{Hdma.no_hdma, declared.Dma.Dma, declared.HdmaChannelState.HdmaChannelState}

pub hdma_put : (d : Dma) (ch : ℕ) (h : HdmaChannelState) (wait : ℕ) → length d.channels ≡ 8 → hdma_at (set_hdma d ch h wait) ch ≡ h
unfolding set_hdma
hdma_put d ch h wait l = get_or-set_same d.channels (ch % 8) h no_hdma (omega arith)

pub hdma_length : (d : Dma) (ch : ℕ) (h : HdmaChannelState) (wait : ℕ) → length d.channels ≡ 8 → length (set_hdma d ch h wait).channels ≡ 8
unfolding set_hdma
hdma_length d ch h wait l = length-set d.channels (ch % 8) h ∙ l
