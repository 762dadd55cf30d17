use native.Mathlib.Omega.{arith}
use Rattle.start.proofs.Repeat.{fill_start, fill_more, fill_end, fill-empty}
use Rattle.start.proofs.fill.fill_bank.Goals as goal

pub returns-then-fill-eq0 : goal.returns-then-fill-eq0
returns-then-fill-eq0 c = fill-empty c.args.fill.now c.args.bank.now c.if-fill-eq0.true

pub loop-i-init : goal.loop-i-init
loop-i-init c = fill_start c.args.fill.now c.args.bank.now

pub loop-i-preserved : goal.loop-i-preserved
loop-i-preserved c =
    let a = c.args in
    let l = c.loop-i in
    fill_more a.fill.now a.bank.now l.bank l.i (omega arith) l.invariant

pub returns : goal.returns
returns c =
    let a = c.args in
    let l = c.loop-i in
    fill_end a.fill.now a.bank.now l.bank l.i (omega arith) (omega arith) c.if-fill-eq0.false l.invariant
