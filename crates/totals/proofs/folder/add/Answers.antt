use Rattle.std.proofs.Common.{sym, arith}
use Rattle.totals.proofs.Folders.{accepted, passed, add-refused, add-accepted}
use Rattle.totals.proofs.folder.add.Goals as goal

pub returns-in_err-allowed : goal.returns-in_err-allowed
returns-in_err-allowed c = rw (passed _ c.from_residual.ensures) (add-refused _ _ _ _ c.in_err-allowed.ensures)

pub overflow_add-files : goal.overflow_add-files
overflow_add-files c = omega (arith, (accepted _ _ _ (sym c.in_ok-allowed.ensures)).room)

pub with_file-requires : goal.with_file-requires
with_file-requires c = (accepted _ _ _ (sym c.in_ok-allowed.ensures)).fits

pub with_file-requires-2 : goal.with_file-requires-2
with_file-requires-2 c = (accepted _ _ _ (sym c.in_ok-allowed.ensures)).survives

pub returns : goal.returns
returns c = let a = c.args in add-accepted a.f a.all.counts a.alive.counts c.in_ok-allowed.ensures c.with_file.ensures c.with_file-2.ensures
