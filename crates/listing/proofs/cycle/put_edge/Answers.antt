use Rattle.append.proofs.Laws.{put_then}
use Rattle.listing.specs.Cycle.{edge_text}
use Rattle.listing.proofs.Every.{every}
use Rattle.listing.proofs.cycle.put_edge.Goals as goal

pub returns-then-is_none : goal.returns-then-is_none
unfolding edge_text
returns-then-is_none c = rw (c.if-edge.true, every _ c.is_none.ensures c.if-is_none.true) (put_then _ _ _ c.head.ensures c.put.ensures)
