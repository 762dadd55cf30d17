use Rattle.std.proofs.Common.{◌≤◌, length}
use Rattle.tally.proofs.Writes.{Seen}
use Rattle.tally.proofs.share.written.Given as goal

abbrev pub invariant-loop-a : goal.invariant-loop-a
invariant-loop-a l = (length l.a-items ≤ 11) × Seen l.a-items l.n l.a-index
