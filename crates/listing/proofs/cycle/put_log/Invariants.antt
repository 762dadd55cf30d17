use Rattle.std.proofs.Common.{◌≡◌, ◌-◌}
use Rattle.append.specs.Lent.{putting}
use Rattle.listing.specs.{Cycle.accesses_from, Line.line_seen}
use Rattle.listing.proofs.cycle.put_log.Given as goal

abbrev pub invariant-loop-i : goal.invariant-loop-i
invariant-loop-i l =
    putting l.fn.out (accesses_from (line_seen l.l) l.fn.w l.zero l.log.items l.n 0) ≡ putting l.out (accesses_from (line_seen l.l) l.wm l.first l.log.items (l.n - l.i) l.i)
