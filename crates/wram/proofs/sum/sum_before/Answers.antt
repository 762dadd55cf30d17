use Rattle.wram.proofs.{SumLaws.follow-before}
use Rattle.wram.proofs.sum.sum_before.Goals as goal

pub returns : goal.returns
returns c = follow-before _ _ _ c.exchanged-c.ensures c.shifted.ensures c.shifted.type_inv
