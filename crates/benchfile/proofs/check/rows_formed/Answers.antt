use Rattle.std.proofs.Common.{rules, ◌≡◌, true}
use Rattle.std.specs.Iterator.Runs.{AllItems, IsChunksRun}
use Rattle.benchfile.specs.Row.{formed_row}
use Rattle.benchfile.proofs.Rows.{Chunks, ran, judged}
use Rattle.benchfile.proofs.check.rows_formed.Goals as goal

pub returns : goal.returns
returns c =
    let p = c.all.ensures.runs.0 in
    let s = c.args.script.now in
    let cut : IsChunksRun p 8 s = search rules in
    let down : (c.all.result ≡ true) → Chunks s = λ e.
    let w : p.whole ≡ true = search rules in
    let k : AllItems p (λ x. formed_row x.now ≡ true) = search rules in
    ran s p c.args.script cut w k in
    let up : Chunks s → c.all.result ≡ true = λ h. search rules in
    judged s c.all.result (down, up)
