use Rattle.std.proofs.Common.{◌≡◌, eqb, map, take}
use Rattle.ranges.specs.Tests.{all}
use Rattle.ranges.proofs.entry.zeros_ok.Given as goal

abbrev pub invariant-loop-x : goal.invariant-loop-x
invariant-loop-x l = l.ok ≡ all (map (λ b. eqb b 0) (take l.x-index l.x-items))
