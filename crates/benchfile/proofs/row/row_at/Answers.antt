use Rattle.std.proofs.Common.{sym}
use Rattle.benchfile.proofs.Rows.{past}
use Rattle.benchfile.proofs.row.row_at.Goals as goal

pub returns-then-script-i : goal.returns-then-script-i
returns-then-script-i c = sym (past c.args.script.now _ c.if-script-i.true)
