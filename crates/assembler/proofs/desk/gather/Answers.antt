use Rattle.assembler.proofs.Join.{gathered-by}
use Rattle.assembler.proofs.desk.gather.Goals as goal

pub returns : goal.returns
returns c = gathered-by _ _ _ _ _ c.start.ensures c.run-all.ensures c.step.ensures
