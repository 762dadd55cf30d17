use Rattle.std.proofs.Common.{min}
use Rattle.wram.specs.Banks.{banks}
use Rattle.wram.proofs.SumLaws.{Exchanged}
use Rattle.wram.proofs.sum.exchanged.Given as goal

abbrev pub invariant-loop-i : goal.invariant-loop-i
invariant-loop-i l = Exchanged (min l.fn.olds.count 4) l.fn.olds (banks l.low l.high) l.stands l.stood l.i
