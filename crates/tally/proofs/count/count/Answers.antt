use Rattle.tally.proofs.Totals.{count-passes, count-goes}
use Rattle.tally.proofs.count.count.Goals as goal

pub returns-then-general-units : goal.returns-then-general-units
returns-then-general-units c =
    count-passes _ _ c.over-general.ensures c.over-units.ensures c.over-table.ensures c.over-held.ensures c.over-all.ensures c.if-general-units.true

pub returns : goal.returns
returns c =
    let raise5 = c.raise-5 in
    count-goes _ _ c.over-general.ensures c.over-units.ensures c.over-table.ensures c.over-held.ensures c.over-all.ensures c.if-general-units.false c.raise.ensures c.raise-2.ensures c.raise-3.ensures c.raise-4.ensures raise5.ensures
