use Rattle.totals.proofs.Folders.{number-over, number-full, number-fine}
use Rattle.totals.proofs.folder.allowed.Goals as goal

pub returns-then-too_much : goal.returns-then-too_much
returns-then-too_much c = number-over _ _ _ c.too_much.ensures c.too_much-2.ensures c.if-too_much.true

pub returns-then-f-ge256 : goal.returns-then-f-ge256
returns-then-f-ge256 c = number-full _ _ _ c.too_much.ensures c.too_much-2.ensures c.if-too_much.false c.if-f-ge256.true

pub returns : goal.returns
returns c = number-fine _ _ _ c.too_much.ensures c.too_much-2.ensures c.if-too_much.false c.if-f-ge256.false
