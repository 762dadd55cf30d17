use Rattle.std.proofs.Common.{refl, arith}
use Rattle.asbytes.proofs.Head.{head-long}
use Rattle.asbytes.specs.Machine.{head_of}
use Rattle.fields.proofs.{Front.over-front, Front.within, Front.front-over, Patch.no_room}
use Rattle.fields.specs.Patch.{patched}
use Rattle.image.specs.Encode.{enc_olds}
use Rattle.inplace.proofs.{OneByteJoin.noted-long}
use Rattle.inplace.specs.Rest.{at}
use Rattle.layout.specs.Layout as the
use Rattle.layout.specs.Layout.{image_size}
use Rattle.inplace.proofs.onebyte.put_noted.Goals as goal

pub returns-then-part-ge-IMAGE_SIZE : goal.returns-then-part-ge-IMAGE_SIZE
returns-then-part-ge-IMAGE_SIZE c =
    let room = c.if-part-ge-IMAGE_SIZE.true in
    let copied = over-front image_size c.args.part.now room (head_of c.args.s.now) c.put_head.ensures (head-long c.args.s.now) in
    front-over image_size c.args.part.now room (within copied c.put.ensures refl c.olds_bytes.ensures (omega arith))

pub returns-else-part-ge-IMAGE_SIZE : goal.returns-else-part-ge-IMAGE_SIZE
returns-else-part-ge-IMAGE_SIZE c =
    no_room image_size c.args.part.now (patched (head_of c.args.s.now) (at the.old_count) (enc_olds c.args.olds)) (noted-long c.args.s.now c.args.olds) c.if-part-ge-IMAGE_SIZE.false
