use Rattle.std.proofs.Common.{refl, ap}
use Rattle.script.specs.Run.{cycles_run}
use Rattle.script.specs.declared.rig.Rig.{Rig}
use Rattle.script.proofs.Join.{then_same, cycles_more}
use Rattle.script.proofs.repeat.run_cycles.Goals as goal

pub loop-i-init : goal.loop-i-init
unfolding cycles_run
loop-i-init c = record { same = refl; is = refl }

pub loop-i-preserved : goal.loop-i-preserved
loop-i-preserved c =
    let at = c.loop-i.invariant in
    let step = c.cycle_step-s.ensures in record {
      same = then_same c.args.rig.now _ _ at.same step.same;
      is = cycles_more _ _ _ _ _ at.is (ap (λ (g : Rig). g.rom.now) at.same) c.first_of.ensures c.first_flag.ensures c.first_flag-in-loop-i.ensures step.value;
    }
