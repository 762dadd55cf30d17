use Rattle.std.proofs.Common.{◌≡◌, drop}
use Rattle.reader.specs.Reader.{start_of, fails_at, fault_of, until_from}
use Rattle.reader.proofs.text.fault.Given as goal

abbrev pub invariant-loop-i : goal.invariant-loop-i
invariant-loop-i l = fault_of start_of l.text ≡ until_from fails_at l.i l.r (drop l.i l.text)
