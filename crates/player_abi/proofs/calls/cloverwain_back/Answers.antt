use Rattle.player_abi.proofs.Join.{back_by, plain-left}
use Rattle.player_abi.proofs.calls.cloverwain_back.Goals as goal

pub returns : goal.returns
returns c = back_by _ _ _ _ c.bench_of-b.ensures c.back-r.ensures (plain-left _ _ _ _ _ _ c.write_back.ensures)
