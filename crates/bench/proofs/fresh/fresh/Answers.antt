use Rattle.bench.proofs.Join.{fresh-refused, fresh-done}
use Rattle.bench.proofs.fresh.fresh.Goals as goal

pub returns-in-Ok : goal.returns-in-Ok
returns-in-Ok c = fresh-done _ _ _ _ c.in-Ok.ensures c.ram_sum.ensures c.empty_bench.ensures

pub returns-in-Err : goal.returns-in-Err
returns-in-Err c = fresh-refused _ _ _ _ c.in-Err.refusal c.in-Err.ensures c.no_bench.ensures
