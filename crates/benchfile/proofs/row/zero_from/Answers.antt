use Rattle.std.proofs.Common.{rules, ◌≡◌, true, ◌↔◌}
use Rattle.benchfile.proofs.Zeros.{Blank, tested}
use Rattle.benchfile.proofs.row.zero_from.Goals as goal

pub returns : goal.returns
returns c =
    let each : (c.all.result ≡ true) ↔ Blank c.args.row.now c.args.at = search rules in
    tested c.args.row.now c.args.at c.all.result each
