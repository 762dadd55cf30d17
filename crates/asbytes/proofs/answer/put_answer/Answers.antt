use Rattle.asbytes.proofs.{Join.answered-by}
use Rattle.asbytes.proofs.answer.put_answer.Goals as goal

pub returns : goal.returns
returns c =
    answered-by c.args.out.now _ _ c.args.log c.put.ensures c.put_accesses.ensures
