use borrow.Author.Tests.{le-leb, lt-leb}
use lib.ListN.{length}
use Rattle.asbytes.specs.Machine.{head_of}
use Rattle.layout.specs.Layout.{image_size}
use Rattle.asbytes.proofs.bytes.put_head.Goals as goal

pub returns-then-s-ge-IMAGE_SIZE : goal.returns-then-s-ge-IMAGE_SIZE
unfolding head_of
returns-then-s-ge-IMAGE_SIZE c =
    rw (le-leb image_size (length c.args.s.now) c.if-s-ge-IMAGE_SIZE.true) c.put.ensures

pub returns-else-s-ge-IMAGE_SIZE : goal.returns-else-s-ge-IMAGE_SIZE
unfolding head_of
returns-else-s-ge-IMAGE_SIZE c =
    rw (lt-leb image_size (length c.args.s.now) c.if-s-ge-IMAGE_SIZE.false) c.clear.ensures
