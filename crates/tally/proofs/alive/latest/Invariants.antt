use Rattle.std.proofs.Common.{◌≡◌}
use Rattle.tally.specs.Alive.{latest_of}
use Rattle.tally.proofs.alive.latest.Given as goal

abbrev pub invariant-loop-i : goal.invariant-loop-i
invariant-loop-i l = latest_of l.alive l.top ≡ latest_of l.alive l.i
