use mathlib.Core.Bool.{false}
use mathlib.Core.Path.{refl, ap, ◌∙◌}
use Rattle.asbytes.specs.Answer.{answered}
use Rattle.bus.specs.Access.{Log}
use Rattle.inplace.proofs.{OneByteLaws.carry-crossed, RestLaws.rest-crossed}
use Rattle.player_abi.proofs.Join.{cycle-by, cycle-ok, cycle-err}
use Rattle.way.proofs.Ready.{all-bytes}
use Rattle.player_abi.proofs.calls.cloverwain_cycle.Goals as goal

pub returns-in-Rest : goal.returns-in-Rest
returns-in-Rest c =
    rest-crossed c.args.rom.now c.args.machine.now c.args.low.now c.args.high.now c.args.entries.now c.args.out.now _ _ _ (all-bytes c.args.machine.now (λ k h. (c.slice_known-1.given k).fits)) c.in-Rest.ensures refl c.rest.ensures

pub returns-in-Carry : goal.returns-in-Carry
returns-in-Carry c =
    carry-crossed c.args.rom.now c.args.machine.now c.args.low.now c.args.high.now c.args.entries.now c.args.out.now _ _ _ (all-bytes c.args.machine.now (λ k h. (c.slice_known-1.given k).fits)) c.in-Carry.ensures refl c.carry.ensures

pub returns-in-Ok : goal.returns-in-Ok
returns-in-Ok c = cycle-by _ _ _ _ _ c.bench_of.ensures _ _ _ c.args.out.now c.in-Ok.ensures (cycle-ok _ _ _ _ c.bench_of.result c.args.out.now c.in-Ok.r c.store.ensures c.put_answer.ensures)

pub returns-in-Err : goal.returns-in-Err
returns-in-Err c =
    cycle-by _ _ _ _ _ c.bench_of.ensures _ _ _ c.args.out.now c.in-Err.ensures (cycle-err _ _ _ _ c.bench_of.result c.args.out.now _ c.number.ensures (c.put_answer-in-Err.ensures ∙ ap (λ (l : Log). answered false false l c.args.out.now) c.no_log.ensures))
