use Rattle.std.proofs.Common.{refl, ap}
use Rattle.wram.specs.Lent.{seen}
use Rattle.wram.proofs.LentLaws.{then, ended}
use Rattle.wram.proofs.Undo.{back-start, back-step, back-end}
use Rattle.wram.proofs.Ram.put_back.Goals as goal

pub loop-old-init : goal.loop-old-init
loop-old-init c = record { left = back-start _ _ c.into_iter-old-iterator.result.iter.rest.now (cc) (cc); same = refl }

pub loop-old-preserved : goal.loop-old-preserved
loop-old-preserved c = record {
  left = back-step _ _ _ _ _ c.loop-old.invariant.left c.in-Some.ensures.steps c.place_of.ensures (ap seen c.poke.ensures);
  same = then c.args.self.now {s = c.loop-old.self} _ c.loop-old.invariant.same c.poke.ensures;
}

pub returns : goal.returns
returns c = ended c.args.self.now {s = c.loop-old.self} _ c.loop-old.invariant.same (back-end _ _ _ c.loop-old.invariant.left c.in-None.ensures.steps.0)
