use Rattle.wram.proofs.SumLaws.{Added}
use Rattle.wram.proofs.sum.bank_sum.Given as goal

abbrev pub invariant-loop-byte : goal.invariant-loop-byte
invariant-loop-byte l = Added l.bank l.sum l.byte-index
