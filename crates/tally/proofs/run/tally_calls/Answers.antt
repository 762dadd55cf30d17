use Rattle.std.proofs.Common.{refl, ap}
use Rattle.script.proofs.Join.{then_same}
use Rattle.script.specs.declared.rig.Rig.{Rig}
use Rattle.tally.specs.Run.{calls_tallied}
use Rattle.tally.proofs.Join.{then_kept, calls_more}
use Rattle.tally.proofs.run.tally_calls.Goals as goal

pub loop-i-init : goal.loop-i-init
unfolding calls_tallied
loop-i-init c = record { rig = refl; lent = refl; told = λ e. e; is = refl }

pub loop-i-preserved : goal.loop-i-preserved
loop-i-preserved c =
    let at = c.loop-i.invariant in
    let step = c.tally_step.ensures in record {
      rig = then_same c.args.rig.now _ _ at.rig step.rig;
      lent = then_kept c.args.t.now _ _ at.lent step.lent;
      told = λ e. step.told (at.told e);
      is = calls_more _ _ _ _ at.is (ap (λ (g : Rig). g.rom.now) at.rig) step.value;
    }
