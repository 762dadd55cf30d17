use Rattle.std.proofs.Common.{◌≡◌, true}
use Rattle.wram.specs.Change.{first_there}
use Rattle.wram.proofs.sum.first_there.Given as goal

abbrev pub invariant-loop-other : goal.invariant-loop-other
invariant-loop-other l = first_there l.other-index l.fn.olds l.old ≡ true
