use Rattle.std.proofs.Common.{refl, ap}
use Rattle.script.specs.declared.rig.Rig.{Rig}
use Rattle.script.proofs.Join.{then_same}
use Rattle.append.proofs.Laws.{then_kept}
use Rattle.printout.specs.Rows.{steps}
use Rattle.printout.proofs.Join.{steps_more}
use Rattle.printout.proofs.rows.run_rows.Goals as goal

pub loop-i-init : goal.loop-i-init
unfolding steps
loop-i-init c = record { same = refl; kept = refl; is = refl }

pub loop-i-preserved : goal.loop-i-preserved
loop-i-preserved c =
    let at = c.loop-i.invariant in
    let step = c.step-s.ensures in record {
      same = then_same c.args.rig.now _ _ at.same step.same;
      kept = then_kept c.args.out.now _ _ at.kept step.kept;
      is = steps_more _ _ _ _ at.is (ap (λ (g : Rig). g.rom.now) at.same) step.value;
    }
