use Rattle.std.proofs.Common.{◌≡◌, ℕ, ◌+◌, ◌<◌, ◌≤◌, [], ◌∷◌, ◌++◌, List, length, get_or, drop, sym, ap, ◌∙◌, add-one, arith, rules}
use lib.Seq.{take-suc-set, take_all, get_or-take, get_or-drop}
use Rattle.fields.proofs.Little.{span-suc}
use Rattle.fields.proofs.word.bytes_at.Goals as goal

pub loop-i-preserved : goal.loop-i-preserved
loop-i-preserved g c =
    let l = c.loop-i in
    let s = c.args.s.now in
    let lt : l.i < length l.x-items = omega arith in
    let here : c.byte.result ≡ get_or s (c.args.at + l.i) 0 =
    c.byte.ensures ∙ ap (λ (x : List ℕ). get_or x l.i 0) c.part-there.ensures
    ∙ get_or-take g.row.N (drop c.args.at s) l.i 0 c.loop-i-test.true ∙ get_or-drop c.args.at s l.i 0 in
    record {
      long = search rules;
      so_far = rw add-one (take-suc-set l.x-items l.i _ lt ∙ (λ j. l.invariant.so_far j ++ (here j ∷ [])) ∙ sym (span-suc l.i c.args.at s));
    }

pub returns : goal.returns
returns g c = let l = c.loop-i in
    let all : length l.x-items ≤ l.i = omega arith in
    let end : l.i ≡ g.row.N = omega arith in
    rw end at (sym (take_all l.i l.x-items all) ∙ l.invariant.so_far)
