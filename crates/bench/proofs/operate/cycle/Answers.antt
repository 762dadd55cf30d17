use Rattle.std.proofs.Common.{rules, refl, ap}
use Rattle.wram.specs.Lent.{seen}
use Rattle.bench.proofs.Join.{passed, cycle-refused, cycle-done}
use Rattle.bench.proofs.operate.cycle.Goals as goal

pub returns-in_err-cycle_allowed : goal.returns-in_err-cycle_allowed
returns-in_err-cycle_allowed c = rw (passed _ c.from_residual.ensures) (cycle-refused _ _ c.lent-lent.ensures _ _ _ _ c.in_err-cycle_allowed.ensures)

pub returns : goal.returns
returns c =
    let made = cycle-done _ _ c.lent-lent.ensures _ _ _ c.in_ok-cycle_allowed.ensures c.event_of.ensures refl c.cycle-turn.ensures.turn (ap seen c.cycle-turn.ensures.ram) c.cycle-turn.ensures.machine c.sum_after-sum.ensures c.note-bench.ensures in
    search rules
