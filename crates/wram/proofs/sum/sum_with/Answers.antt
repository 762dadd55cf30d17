use Rattle.wram.proofs.{SumLaws.follow-put, SumLaws.follow-out}
use Rattle.wram.proofs.sum.sum_with.Goals as goal

pub returns-then-inside : goal.returns-then-inside
returns-then-inside c = follow-put _ _ c.args.place _ c.inside.ensures c.if-inside.true c.peek.ensures c.shifted.ensures c.shifted.type_inv

pub returns : goal.returns
returns c = follow-out _ _ c.args.place _ c.inside.ensures c.if-inside.false c.ranges.sum.fits
