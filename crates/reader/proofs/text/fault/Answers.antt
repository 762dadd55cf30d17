use Rattle.std.proofs.Common.{◌∙◌, sym, ap}
use Rattle.reader.specs.declared.reader.Reader.{Reader}
use Rattle.reader.specs.Draft.{has_failed}
use Rattle.reader.proofs.Walk.{until_here, until_next, until_none}
use Rattle.reader.proofs.text.fault.Goals as goal

pub returns-then-has_failed : goal.returns-then-has_failed
returns-then-has_failed c =
    sym
    (c.loop-i.invariant
    ∙ until_here _ _ _ _ c.loop-i-test.true (ap (λ (x : Reader). has_failed x.draft) (sym c.read-r.ensures) ∙ sym c.has_failed.ensures ∙ c.if-has_failed.true))

pub loop-i-preserved : goal.loop-i-preserved
loop-i-preserved c =
    c.loop-i.invariant
    ∙ until_next _ _ _ _ c.loop-i-test.true c.read-r.ensures (ap (λ (x : Reader). has_failed x.draft) (sym c.read-r.ensures) ∙ sym c.has_failed.ensures ∙ c.if-has_failed.false)

pub returns : goal.returns
returns c = sym (c.loop-i.invariant ∙ until_none _ _ _ _ c.loop-i-test.false)
