use Rattle.std.proofs.Common.{◌≡◌, take}
use Rattle.append.specs.Lent.{putting}
use Rattle.dump.specs.Page.{signs_text}
use Rattle.dump.proofs.page.signs.Given as goal

abbrev pub invariant-loop-c : goal.invariant-loop-c
invariant-loop-c l = l.out ≡ putting l.fn.out (signs_text (take l.c-index l.s))
