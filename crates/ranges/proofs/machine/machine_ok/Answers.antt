use Rattle.ranges.specs.Machine.{machine_ok}
use Rattle.ranges.proofs.machine.machine_ok.Goals as goal

pub returns : goal.returns
unfolding machine_ok
returns c = rw (c.auto_ok.ensures, c.progress_ok.ensures)
