use Prim.Native.Nat.{ℕ}
use mathlib.Core.List.{List}
use mathlib.Core.Path.{refl}
use lib.ListN.{get_or}
use Rattle.fields.proofs.Rows.{begun, turned, ended}
use Rattle.image.specs.Encode.{enc_channel}
use Rattle.layout.specs.Layout.{dmap, register, place}
use Rattle.registers.specs.Channel.{no_channel}
use Rattle.registers.specs.declared.channel.DmaChannel.{DmaChannel}
use Rattle.image.proofs.dma.put_channels.Goals as goal

abbrev start : ℕ
start = (place (register 0 dmap)).start

abbrev row_of : List DmaChannel → ℕ → List ℕ
row_of l k = enc_channel (get_or l k no_channel)

pub loop-i-init : goal.loop-i-init
loop-i-init c = let a = c.args in begun a.part.now start 8 (row_of a.channels)

pub loop-i-preserved : goal.loop-i-preserved
loop-i-preserved c =
    let a = c.args in
    turned a.part.now start 8 (row_of a.channels) 12 (λ k. refl) c.if-part-ge-PPU.true c.loop-i.i c.loop-i.invariant c.loop-i-test.true c.put.ensures c.channel_bytes.ensures refl

pub returns-after-loop-i : goal.returns-after-loop-i
returns-after-loop-i c =
    let a = c.args in
    ended a.part.now start 8 (row_of a.channels) 12 (λ k. refl) c.if-part-ge-PPU.true c.loop-i.i c.loop-i.invariant c.loop-i-test.false
