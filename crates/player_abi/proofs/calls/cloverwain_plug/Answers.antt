use Rattle.player_abi.proofs.Join.{plug-by, plain-left}
use Rattle.player_abi.proofs.calls.cloverwain_plug.Goals as goal

pub returns : goal.returns
returns c = plug-by _ _ _ _ _ c.bench_of-b.ensures _ _ c.plug-r.ensures (plain-left _ _ _ _ _ _ c.write_back.ensures)
