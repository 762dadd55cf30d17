use native.Mathlib.Omega.{arith}
use Rattle.common.proofs.RangeLaws.{inside, below, above}
use Rattle.bench.specs.Host.{answer_set}
use Rattle.bench.proofs.host.set_answer.Goals as goal

pub returns-in-8500-to-8511 : goal.returns-in-8500-to-8511
unfolding answer_set
returns-in-8500-to-8511 c = simp (inside 0x2134 0x2140 c.args.addr (omega arith) (omega arith))

pub returns-in-8512-to-8515 : goal.returns-in-8512-to-8515
unfolding answer_set
returns-in-8512-to-8515 c = simp (above 0x2134 0x2140 c.args.addr (omega arith), inside 0x2140 0x2144 c.args.addr (omega arith) (omega arith))

pub returns-then-addr-lt8500 : goal.returns-then-addr-lt8500
unfolding answer_set
returns-then-addr-lt8500 c = simp (below 0x2134 0x2140 c.args.addr (omega arith), below 0x2140 0x2144 c.args.addr (omega arith))

pub returns-else-addr-lt8516 : goal.returns-else-addr-lt8516
unfolding answer_set
returns-else-addr-lt8516 c = simp (above 0x2134 0x2140 c.args.addr (omega arith), above 0x2140 0x2144 c.args.addr (omega arith))
