use Prim.Native.Nat.{ℕ}
use mathlib.Core.List.{List}
use lib.ListN.{get_or}
use Rattle.fields.proofs.Rows.{Laying}
use Rattle.image.specs.Encode.{enc_channel}
use Rattle.layout.specs.Layout.{dmap, register, place}
use Rattle.registers.specs.Channel.{no_channel}
use Rattle.registers.specs.declared.channel.DmaChannel.{DmaChannel}
use Rattle.image.proofs.dma.put_channels.Given as goal

abbrev start : ℕ
start = (place (register 0 dmap)).start

abbrev row_of : List DmaChannel → ℕ → List ℕ
row_of l k = enc_channel (get_or l k no_channel)

abbrev pub invariant-loop-i : goal.invariant-loop-i
invariant-loop-i l = Laying l.initial.part start 8 (row_of l.fn.channels) l.part l.i
