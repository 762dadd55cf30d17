use Rattle.inplace.proofs.{OneByteJoin.moved_by}
use Rattle.inplace.proofs.onebyte.put_moved.Goals as goal

pub returns : goal.returns
returns c =
    moved_by c.args.out.now c.args.edge c.args.trip c.args.byte c.put.ensures c.access_bytes-from.ensures c.access_bytes-to.ensures c.put-2.ensures c.put-3.ensures c.put-4.ensures
