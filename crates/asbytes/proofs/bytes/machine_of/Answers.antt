use Rattle.asbytes.proofs.{Join.machine-by, Join.broken-by}
use Rattle.asbytes.proofs.bytes.machine_of.Goals as goal

pub returns-then-ok-e : goal.returns-then-ok-e
returns-then-ok-e c = machine-by _ c.entry_ok-ok.ensures c.machine_at-m.ensures c.if-ok-e.true

pub returns : goal.returns
returns c = broken-by _ c.entry_ok-ok.ensures c.machine_at-m.ensures c.if-ok-e.false
