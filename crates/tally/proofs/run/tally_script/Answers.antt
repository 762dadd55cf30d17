use Rattle.std.proofs.Common.{refl, ap}
use Rattle.script.proofs.Join.{then_same}
use Rattle.script.specs.declared.rig.Rig.{Rig}
use Rattle.tally.specs.Run.{rows_tallied}
use Rattle.tally.proofs.Join.{then_kept, rows_more}
use Rattle.tally.proofs.run.tally_script.Goals as goal

pub loop-row-init : goal.loop-row-init
unfolding rows_tallied
loop-row-init c = record { rig = refl; lent = refl; told = λ e. e; is = refl }

pub loop-row-preserved : goal.loop-row-preserved
loop-row-preserved c =
    let at = c.loop-row.invariant in
    let step = c.tally_row.ensures in record {
      rig = then_same c.args.rig.now _ _ at.rig step.rig;
      lent = then_kept c.args.t.now _ _ at.lent step.lent;
      told = λ e. step.told (at.told e);
      is = rows_more _ _ _ _ at.is (ap (λ (g : Rig). g.rom.now) at.rig) step.value;
    }
