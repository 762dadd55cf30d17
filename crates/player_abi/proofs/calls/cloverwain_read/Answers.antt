use Rattle.player_abi.proofs.Join.{read_by, read-ok, read-err}
use Rattle.player_abi.proofs.calls.cloverwain_read.Goals as goal

pub returns-in-Ok : goal.returns-in-Ok
returns-in-Ok c =
    read_by _ _ _ _ _ c.bench_of.ensures _ _ c.args.out.now c.in-Ok.ensures (read-ok _ _ _ _ c.bench_of.result c.args.out.now c.in-Ok.r c.store.ensures c.put.ensures)

pub returns-in-Err : goal.returns-in-Err
returns-in-Err c =
    read_by _ _ _ _ _ c.bench_of.ensures _ _ c.args.out.now c.in-Err.ensures (read-err _ _ _ _ c.bench_of.result c.args.out.now _ c.number.ensures c.put-in-Err.ensures)
