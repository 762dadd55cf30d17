use Rattle.player_abi.proofs.Join.{write-by, write-ok, write-err}
use Rattle.player_abi.proofs.calls.cloverwain_write.Goals as goal

pub returns-in-Ok : goal.returns-in-Ok
returns-in-Ok c =
    write-by _ _ _ _ _ c.bench_of.ensures _ _ _ c.args.out.now c.in-Ok.ensures (write-ok _ _ _ _ c.bench_of.result c.args.out.now c.in-Ok.r c.store.ensures c.put.ensures)

pub returns-in-Err : goal.returns-in-Err
returns-in-Err c =
    write-by _ _ _ _ _ c.bench_of.ensures _ _ _ c.args.out.now c.in-Err.ensures (write-err _ _ _ _ c.bench_of.result c.args.out.now _ c.number.ensures c.put-in-Err.ensures)
