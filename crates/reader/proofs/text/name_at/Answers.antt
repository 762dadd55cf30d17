use Rattle.std.proofs.Common.{◌∙◌, sym}
use Rattle.reader.proofs.Walk.{until_here, until_next, until_none}
use Rattle.reader.proofs.text.name_at.Goals as goal

pub returns-then-in_name : goal.returns-then-in_name
returns-then-in_name c = sym (c.loop-i.invariant ∙ until_here _ _ _ _ c.loop-i-test.true (sym c.in_name.ensures ∙ c.if-in_name.true))

pub loop-i-preserved : goal.loop-i-preserved
loop-i-preserved c = c.loop-i.invariant ∙ until_next _ _ _ _ c.loop-i-test.true c.read-r.ensures (sym c.in_name.ensures ∙ c.if-in_name.false)

pub returns : goal.returns
returns c = sym (c.loop-i.invariant ∙ until_none _ _ _ _ c.loop-i-test.false)
