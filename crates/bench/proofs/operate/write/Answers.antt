use Rattle.std.proofs.Common.{rules, ap}
use Rattle.bus.specs.Lent.{world_on}
use Rattle.bench.proofs.Join.{passed, write-refused, write_done}
use Rattle.bench.proofs.operate.write.Goals as goal

pub returns-in_err-lent : goal.returns-in_err-lent
returns-in_err-lent c = rw (passed _ c.from_residual.ensures) (write-refused _ _ _ _ _ _ c.in_err-lent.ensures)

pub returns : goal.returns
returns c =
    let made = write_done _ _ _ _ _ c.in_ok-lent.ensures c.opened_core.ensures (ap world_on c.write.ensures) c.with_io.ensures c.sum_after-sum.ensures c.note-bench.ensures c.cost.ensures in
    search rules
