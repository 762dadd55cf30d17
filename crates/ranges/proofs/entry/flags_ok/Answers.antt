use Rattle.std.proofs.Common.{◌≡◌, ℕ, Bool, sym, ap, ◌∙◌, arith}
use Rattle.ranges.specs.Tests.{and}
use Rattle.ranges.proofs.{Flags.first_flags, Flags.line_flags, Tests.rows-more}
use Rattle.ranges.proofs.entry.flags_ok.Goals as goal

pub loop-i-preserved : goal.loop-i-preserved
loop-i-preserved c =
    let e = c.args.e.now in
    let l = c.loop-i in
    ap (λ (b : Bool). and b (line_flags e l.i)) l.invariant ∙ sym (rows-more (first_flags e) (line_flags e) l.i)

pub returns : goal.returns
returns c = let all : c.loop-i.i ≡ 8 = omega arith in rw all at c.loop-i.invariant
