use Rattle.std.proofs.Common.{◌≡◌, length, take}
use Rattle.fields.specs.Little.{span}
use Rattle.fields.proofs.word.bytes_at.Given as goal

abbrev pub invariant-loop-i : goal.invariant-loop-i
invariant-loop-i g l = record { long : length l.x-items ≡ g.row.N; so_far : take l.i l.x-items ≡ span l.i l.s l.at }
