use Rattle.std.proofs.Common.{refl, ◌∙◌}
use Rattle.fields.proofs.Little.{le_four, le_eight}
use Rattle.asbytes.proofs.Join.{put-by}
use Rattle.inplace.proofs.{RestJoin.ticking-by}
use Rattle.inplace.proofs.rest.tick.Goals as goal

pub returns : goal.returns
returns c =
    ticking-by c.args.s.now _ _ _ c.put.ensures c.saturating_sub.ensures (c.to_le_bytes.ensures ∙ le_four _) c.put-2.ensures refl
    (put-by _ _ c.put-3.ensures (c.to_le_bytes-2.ensures ∙ le_eight _))
