use Rattle.inplace.proofs.{RestJoin.counting-by}
use Rattle.inplace.proofs.rest.count.Goals as goal

pub returns : goal.returns
returns c = counting-by c.args.s.now _ _ _ c.capacity-cap.ensures c.slot_after.ensures c.more_kept.ensures c.put_counts.ensures
