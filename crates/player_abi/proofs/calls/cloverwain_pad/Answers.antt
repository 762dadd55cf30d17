use Rattle.player_abi.proofs.Join.{pad-by, plain-left}
use Rattle.player_abi.proofs.calls.cloverwain_pad.Goals as goal

pub returns : goal.returns
returns c = pad-by _ _ _ _ _ c.bench_of-b.ensures _ _ c.pad-r.ensures (plain-left _ _ _ _ _ _ c.write_back.ensures)
