use mathlib.Core.Path.{◌∙◌}
use Rattle.fields.proofs.Little.{le_eight}
use Rattle.asbytes.proofs.{Join.put-by, Join.counted-by}
use Rattle.asbytes.proofs.bytes.put_counts.Goals as goal

pub returns : goal.returns
returns c =
    counted-by c.args.s.now _ _ _ (put-by _ _ c.put.ensures (c.to_le_bytes.ensures ∙ le_eight c.args.slot)) (put-by _ _ c.put-2.ensures (c.to_le_bytes-2.ensures ∙ le_eight c.args.kept))
    (put-by _ _ c.put-3.ensures (c.to_le_bytes-3.ensures ∙ le_eight c.args.length))
