use Rattle.std.proofs.Common.{◌≡◌}
use Rattle.append.specs.Lent.{putting}
use Rattle.lister.specs.Body.{lines_from}
use Rattle.lister.proofs.body.lines.Given as goal

abbrev pub invariant-loop-k : goal.invariant-loop-k
invariant-loop-k l = l.out ≡ putting l.fn.out (lines_from l.word l.s l.k 0)
