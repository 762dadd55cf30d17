use mathlib.Core.Path.{refl, ◌∙◌}
use native.Mathlib.Omega.{arith}
use borrow.Author.Tests.{lt-leb}
use Rattle.fields.proofs.{Little.le_eight, Patch.nothing, Patch.on, Patch.patch_is}
use Rattle.image.specs.Encode.{enc_channels, encode}
use Rattle.image.proofs.put_fields.Goals as goal

pub returns-then-part-ge-IMAGE_SIZE : goal.returns-then-part-ge-IMAGE_SIZE
unfolding encode
returns-then-part-ge-IMAGE_SIZE c =
    let room = c.if-part-ge-IMAGE_SIZE.true in
    let w0 = nothing c.args.part.now 0 in
    let w1 = on w0 c.put.ensures c.register_bytes.ensures refl (omega (arith, room)) in
    let w2 = on w1 c.put-then-part-ge-IMAGE_SIZE.ensures c.pads_bytes.ensures refl (omega (arith, room)) in
    let w3 = on w2 c.put-then-part-ge-IMAGE_SIZE-2.ensures c.dma_bytes.ensures refl (omega (arith, room)) in
    let w4 = on w3 c.put-then-part-ge-IMAGE_SIZE-3.ensures c.lines_bytes.ensures refl (omega (arith, room)) in
    let w5 = on {t = enc_channels c.args.m.io.channels} w4 c.put_channels.ensures refl refl (omega (arith, room)) in
    let w6 = on w5 c.put-then-part-ge-IMAGE_SIZE-4.ensures c.answer_bytes.ensures refl (omega (arith, room)) in
    let w7 = on w6 c.put-then-part-ge-IMAGE_SIZE-5.ensures (c.to_le_bytes.ensures ∙ le_eight c.args.m.board.clock) refl (omega (arith, room)) in
    let w8 = on w7 c.put-then-part-ge-IMAGE_SIZE-6.ensures c.olds_bytes.ensures refl (omega (arith, room)) in
    let w9 = on w8 c.put-then-part-ge-IMAGE_SIZE-7.ensures c.tail_bytes.ensures refl (omega (arith, room)) in
    patch_is w9 (omega (arith, room))

pub returns-else-part-ge-IMAGE_SIZE : goal.returns-else-part-ge-IMAGE_SIZE
unfolding encode
returns-else-part-ge-IMAGE_SIZE c = rw (lt-leb _ _ c.if-part-ge-IMAGE_SIZE.false) refl
