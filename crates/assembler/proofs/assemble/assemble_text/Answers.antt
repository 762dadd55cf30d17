use Rattle.std.proofs.Common.{ap, refl, ◌∙◌}
use Rattle.append.specs.Sheet.{Sheet}
use Rattle.assembler.specs.Assemble.{placed}
use Rattle.assembler.proofs.Join.{said-by, assembled-ready, assembled-not}
use Rattle.assembler.proofs.assemble.assemble_text.Goals as goal

pub returns-then-not-ready-clause-text : goal.returns-then-not-ready-clause-text
returns-then-not-ready-clause-text c =
    ap (λ (s : Sheet). s.text) (assembled-not _ _ _ _ (said-by _ _ c.gather-k.ensures) c.ready.ensures c.if-not-ready.true)

pub returns-then-not-ready-clause-file : goal.returns-then-not-ready-clause-file
returns-then-not-ready-clause-file c =
    ap (λ (s : Sheet). placed s.at) (assembled-not _ _ _ _ (said-by _ _ c.gather-k.ensures) c.ready.ensures c.if-not-ready.true)

pub returns-clause-text : goal.returns-clause-text
returns-clause-text c =
    c.finish.ensures.text
    ∙ ap (λ (s : Sheet). s.text)
    (assembled-ready _ _ _ _ (said-by _ _ c.gather-k.ensures) c.ready.ensures c.if-not-ready.false
    c.part-front.ensures c.part-rom.ensures c.part-script.ensures refl)

pub returns-clause-file : goal.returns-clause-file
returns-clause-file c =
    c.finish.ensures.file
    ∙ ap (λ (s : Sheet). placed s.at)
    (assembled-ready _ _ _ _ (said-by _ _ c.gather-k.ensures) c.ready.ensures c.if-not-ready.false
    c.part-front.ensures c.part-rom.ensures c.part-script.ensures refl)
