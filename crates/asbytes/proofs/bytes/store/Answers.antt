use Rattle.asbytes.proofs.{Join.stored-by}
use Rattle.asbytes.proofs.bytes.store.Goals as goal

pub returns : goal.returns
returns c =
    stored-by c.args.s.now _ c.put_machine.ensures c.put_counts.ensures c.put_sum.ensures
