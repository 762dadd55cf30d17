use Rattle.std.proofs.Common.{rules}
use mathlib.Core.Path.{ap}
use Rattle.wram.specs.Lent.{seen}
use Rattle.bench.proofs.Join.{passed, back-refused, back_done}
use Rattle.bench.proofs.back.back.Goals as goal

pub returns-in_err-back_allowed : goal.returns-in_err-back_allowed
returns-in_err-back_allowed c =
    rw (passed _ c.from_residual.ensures) (back-refused _ c.lent-lent.ensures c.capacity.ensures c.slot_before-slot.ensures c.read_entry-newest.ensures _ c.in_err-back_allowed.ensures)

pub returns : goal.returns
returns c =
    let made = back_done _ c.lent-lent.ensures c.capacity.ensures c.slot_before-slot.ensures c.read_entry-newest.ensures c.in_ok-back_allowed.ensures c.less_kept.ensures c.sum_before-sum.ensures (ap seen c.put_back.ensures) in
    search rules
