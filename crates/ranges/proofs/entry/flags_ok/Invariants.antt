use Rattle.std.proofs.Common.{◌≡◌, ◌++◌}
use Rattle.fields.specs.Table.{times}
use Rattle.ranges.specs.Tests.{all}
use Rattle.ranges.proofs.Flags.{first_flags, line_flags}
use Rattle.ranges.proofs.entry.flags_ok.Given as goal

abbrev pub invariant-loop-i : goal.invariant-loop-i
invariant-loop-i l = l.ok ≡ all (first_flags l.e ++ times l.i (line_flags l.e))
