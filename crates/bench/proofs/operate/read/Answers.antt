use Rattle.std.proofs.Common.{rules, refl, ap}
use Rattle.bus.specs.Lent.{world_on}
use Rattle.bench.proofs.Join.{passed, read-refused, read_done_lem}
use Rattle.bench.proofs.operate.read.Goals as goal

pub returns-in_err-lent : goal.returns-in_err-lent
returns-in_err-lent c = rw (passed _ c.from_residual.ensures) (read-refused _ _ _ _ _ c.in_err-lent.ensures)

pub returns : goal.returns
returns c =
    let made = read_done_lem _ _ _ _ c.in_ok-lent.ensures c.opened_core.ensures refl c.read-byte.ensures.byte (ap world_on c.read-byte.ensures.after) c.with_io.ensures c.sum_after-sum.ensures c.note-bench.ensures c.cost.ensures in
    search rules
