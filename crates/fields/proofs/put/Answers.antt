use Rattle.std.proofs.Common.{arith, rules}
use Rattle.std.proofs.lemmas.List.Edits.{paste_more}
use Rattle.fields.proofs.put.Goals as goal

pub loop-i-preserved : goal.loop-i-preserved
loop-i-preserved c =
    let a = c.args in
    let l = c.loop-i in
    record {
      same_length = search rules;
      pasted = rw l.invariant.pasted (paste_more a.dst.now a.at a.src.now l.i 0 (omega arith) (omega arith));
    }
