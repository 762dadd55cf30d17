use Rattle.std.proofs.Common.{refl}
use Rattle.wram.specs.Change.{first_there}
use Rattle.wram.proofs.SumLaws.{not-there, there}
use Rattle.wram.proofs.sum.first_there.Goals as goal

pub loop-other-init : goal.loop-other-init
unfolding first_there
loop-other-init c = refl

pub loop-other-preserved : goal.loop-other-preserved
loop-other-preserved c = not-there _ _ _ c.args.n c.same_place.ensures c.loop-other-test.true c.loop-other.invariant c.if-same_place.false

pub returns-then-same_place : goal.returns-then-same_place
returns-then-same_place c = there _ _ _ _ c.same_place.ensures c.loop-other-test.true c.if-same_place.true
