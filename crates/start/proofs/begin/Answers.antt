use Rattle.std.proofs.Common.{refl}
use Rattle.bench.proofs.Join.{passed}
use Rattle.start.proofs.Join.{start-broken, start-refused, start-goes}
use Rattle.start.proofs.begin.Goals as goal

pub returns-in_err-file_check : goal.returns-in_err-file_check
returns-in_err-file_check c = rw (passed _ c.from_residual.ensures) (start-broken _ _ _ _ c.in_err-file_check.ensures)

pub returns-in-Ok : goal.returns-in-Ok
returns-in-Ok c =
    start-goes _ _ _ c.in_ok-file_check.ensures c.body-fill.ensures c.fill_bank.ensures c.fill_bank-2.ensures c.body.ensures c.two.ensures
    c.in-Ok.ensures refl c.section_span.ensures c.section_span-in-Ok.ensures

pub returns-in-Err : goal.returns-in-Err
returns-in-Err c =
    start-refused _ _ _ c.in_ok-file_check.ensures c.body-fill.ensures c.fill_bank.ensures c.fill_bank-2.ensures c.body.ensures c.two.ensures
    c.in-Err.ensures _ refl
