use mathlib.Core.Path.{◌∙◌}
use Rattle.fields.proofs.Little.{le_four}
use Rattle.asbytes.proofs.{Join.summed_by}
use Rattle.asbytes.proofs.bytes.put_sum.Goals as goal

pub returns : goal.returns
returns c = summed_by c.args.s.now _ (c.to_le_bytes.ensures ∙ le_four c.args.sum) c.put.ensures
