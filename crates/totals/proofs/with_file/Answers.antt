use Rattle.std.proofs.Common.{◌≡◌, ◌∙◌, ap, arith}
use Rattle.totals.specs.Column.{placed}
use Rattle.totals.proofs.Passing.{fits-at}
use Rattle.totals.proofs.Placed.{up_to, column-more, column-all}
use Rattle.totals.proofs.with_file.Goals as goal

pub loop-i-init : goal.loop-i-init
unfolding placed
loop-i-init c = c.empty-out.ensures

pub overflow_add-out : goal.overflow_add-out
overflow_add-out c = omega (arith, fits-at c.args.c.sum c.args.f.counts 29 c.loop-i.i c.requires c.loop-i-test.true)

pub loop-i-preserved : goal.loop-i-preserved
loop-i-preserved c =
    let a = c.args in
    column-more a.c a.file a.f.counts c.loop-i.i c.loop-i-test.true c.loop-i.invariant c.larger.ensures c.which.ensures

pub returns : goal.returns
returns c =
    let a = c.args in
    let e : c.loop-i.i ≡ 29 = omega arith in
    c.loop-i.invariant ∙ ap (up_to a.c a.file a.f.counts) e ∙ column-all a.c a.file a.f.counts
