use Rattle.std.proofs.Common.{◌≡◌}
use Rattle.wram.specs.Lent.{seen}
use Rattle.wram.specs.Olds.{put_back}
use Rattle.wram.proofs.LentLaws.{Same}
use Rattle.wram.proofs.Undo.{back}
use Rattle.wram.proofs.Ram.put_back.Given as goal

abbrev pub invariant-loop-old : goal.invariant-loop-old
invariant-loop-old l = record {
  left : back l.old-iterator.iter.rest.now (seen l.self) ≡ put_back l.fn.olds (seen l.fn.self);
  same : Same l.fn.self l.self;
}
