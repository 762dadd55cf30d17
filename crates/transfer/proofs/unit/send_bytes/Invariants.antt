use Rattle.std.proofs.Common.{◌≡◌}
use Rattle.bus.specs.Lent.{world_on, holding}
use Rattle.transfer.specs.Unit.{unit_bytes}
use Rattle.transfer.proofs.unit.send_bytes.Given as goal

abbrev pub invariant-loop-i : goal.invariant-loop-i
invariant-loop-i l = l.bus ≡ holding l.fn.bus (unit_bytes l.fn.bus.rom.now l.c l.from.bank l.from.addr l.i (world_on l.fn.bus))
