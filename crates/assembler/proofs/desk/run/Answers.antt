use Rattle.std.proofs.Common.{◌∙◌, sym}
use Rattle.common.proofs.FoldLaws.{fold_next, fold_end}
use Rattle.assembler.specs.Desk.{stepped, runs}
use Rattle.assembler.proofs.desk.run.Goals as goal

pub loop-c-preserved : goal.loop-c-preserved
unfolding runs
loop-c-preserved c =
    let l = c.loop-c.invariant in record {
      front_length = c.step-now.auto.front ∙ l.front_length;
      rom_length = c.step-now.auto.rom ∙ l.rom_length;
      script_length = c.step-now.auto.script ∙ l.script_length;
      left = l.left ∙ fold_next (stepped _) _ _ 0 c.loop-c-test.true c.step-now.ensures;
    }

pub returns : goal.returns
unfolding runs
returns c = sym (c.loop-c.invariant.left ∙ fold_end (stepped _) _ _ c.loop-c-test.false)
