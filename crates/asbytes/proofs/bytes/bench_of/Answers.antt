use Rattle.asbytes.proofs.{Join.bench-by}
use Rattle.asbytes.proofs.bytes.bench_of.Goals as goal

pub returns : goal.returns
returns c = bench-by _ c.head_bytes.ensures c.machine_of.ensures c.slot_at.ensures c.kept_at.ensures c.length_at.ensures c.sum_at.ensures
