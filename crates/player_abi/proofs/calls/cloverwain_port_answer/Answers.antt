use Rattle.player_abi.proofs.Join.{answer-by, plain-left}
use Rattle.player_abi.proofs.calls.cloverwain_port_answer.Goals as goal

pub returns : goal.returns
returns c = answer-by _ _ _ _ _ c.bench_of-b.ensures _ _ c.port_answer-r.ensures (plain-left _ _ _ _ _ _ c.write_back.ensures)
