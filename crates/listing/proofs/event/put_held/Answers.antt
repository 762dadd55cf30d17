use Rattle.append.proofs.Laws.{put_then}
use Rattle.listing.specs.Event.{held_text}
use Rattle.listing.proofs.Every.{every}
use Rattle.listing.proofs.event.put_held.Goals as goal

pub returns-then-is_none : goal.returns-then-is_none
unfolding held_text
returns-then-is_none c =
    rw (every _ c.is_none.ensures c.if-is_none.true)
    (put_then _ _ _ c.head.ensures
    (put_then _ _ _ c.put.ensures
    (put_then _ _ _ c.decimal.ensures
    (put_then _ _ _ c.put-then-is_none.ensures
    (put_then _ _ _ c.decimal-then-is_none.ensures c.put-then-is_none-2.ensures)))))
