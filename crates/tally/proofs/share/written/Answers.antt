use Rattle.std.proofs.Common.{ap, ◌∙◌, arith}
use Rattle.tally.specs.Figure.{writes}
use Rattle.tally.proofs.Writes.{held-accesses, seen_none, seen_more, seen_all}
use Rattle.tally.proofs.share.written.Goals as goal

pub loop-a-init : goal.loop-a-init
loop-a-init c = (omega (arith, c.held-a-items.ensures.many), seen_none _)

pub loop-a-preserved : goal.loop-a-preserved
loop-a-preserved c = (c.loop-a.invariant.0, seen_more _ c.loop-a.invariant.1 c.loop-a-test.true)

pub returns : goal.returns
returns c =
    seen_all _ c.loop-a.invariant.1 c.loop-a-test.false ∙ ap writes (held-accesses c.args.log c.held-a-items.ensures.what c.held-a-items.ensures.many)
