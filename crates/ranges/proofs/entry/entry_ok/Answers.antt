use Rattle.ranges.proofs.{Join.joined_tests}
use Rattle.ranges.proofs.entry.entry_ok.Goals as goal

pub returns : goal.returns
returns c =
    joined_tests c.args.e.now c.two-cycles.ensures c.four.ensures
    c.two.ensures c.two-2.ensures c.two-3.ensures
    c.two-4.ensures c.four-2.ensures c.four-3.ensures
    c.three.ensures c.three-2.ensures
    c.three-3.ensures c.three-4.ensures
    c.kinds_ok.ensures c.zeros_ok.ensures
    c.flags_ok.ensures c.bank_ok.ensures c.cycles_ok.ensures
    c.auto_ok.ensures c.pads_ok.ensures
    c.dma_ok.ensures c.old_ok.ensures c.old_ok-2.ensures
    c.old_ok-3.ensures c.old_ok-4.ensures
