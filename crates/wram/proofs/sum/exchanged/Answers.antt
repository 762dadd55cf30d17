use Rattle.std.proofs.Common.{arith}
use Rattle.wram.proofs.SumLaws.{exchanged-none, counted, uncounted}
use Rattle.wram.proofs.sum.exchanged.Goals as goal
use Rattle.wram.proofs.sum.exchanged.Goals.{then-first_there-inside, else-first_there-inside}

pub loop-i-init : goal.loop-i-init
loop-i-init c = exchanged-none _ _ _ (omega arith)

pub loop-i-preserved : goal.loop-i-preserved
loop-i-preserved c =
    elim c.if-first_there-inside.branch [
      | then-first_there-inside w ↦
          rw (w.stands-is, w.stood-is)
          (counted _ _ _ _ c.loop-i.invariant c.held-old-items.ensures.what c.loop-i-test.true c.place_of.ensures c.first_there.ensures c.inside.ensures
          w.if-first_there-inside.true w.peek.ensures w.peek.type_inv (omega arith))
      | else-first_there-inside w ↦
          rw (w.stands-is, w.stood-is)
          (uncounted _ _ _ _ c.loop-i.invariant c.held-old-items.ensures.what c.loop-i-test.true c.place_of.ensures c.first_there.ensures c.inside.ensures
          w.if-first_there-inside.false)
    ]
