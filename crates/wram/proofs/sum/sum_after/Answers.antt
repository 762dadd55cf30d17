use Rattle.wram.proofs.{SumLaws.follow-after}
use Rattle.wram.proofs.sum.sum_after.Goals as goal

pub returns : goal.returns
returns c = follow-after _ _ _ c.exchanged-c.ensures c.shifted.ensures c.shifted.type_inv
