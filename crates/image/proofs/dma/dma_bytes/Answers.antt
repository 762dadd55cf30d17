use Rattle.std.proofs.Common.{List, [], ◌∷◌, get_or, ap, ◌∙◌}
use mir.Val.{bool_byte}
use Rattle.fields.proofs.Little.{le_four}
use Rattle.fields.specs.Little.{le}
use Rattle.image.proofs.dma.dma_bytes.Goals as goal

pub returns : goal.returns
returns c =
    let d = c.args.m.dma in
    let unit = c.to_le_bytes-unit.ensures ∙ le_four c.progress_unit.result ∙ ap (le 4) c.progress_unit.ensures in
    let wait = c.to_le_bytes-wait.ensures ∙ le_four d.wait in
    λ i.
    c.state_byte.ensures i ∷ bool_byte d.running ∷ bool_byte (c.is_present.ensures i) ∷ c.progress_channel.ensures i
    ∷ get_or (unit i) 0 0 ∷ get_or (unit i) 1 0 ∷ get_or (unit i) 2 0 ∷ get_or (unit i) 3 0
    ∷ get_or (wait i) 0 0 ∷ get_or (wait i) 1 0 ∷ get_or (wait i) 2 0 ∷ get_or (wait i) 3 0
    ∷ bool_byte d.pending ∷ bool_byte d.init ∷ d.queue ∷ []
