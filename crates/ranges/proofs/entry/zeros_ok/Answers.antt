use Rattle.std.proofs.Common.{ℕ, ◌≤◌, ◌&&◌, Bool, eqb, List, length, map, get_or, take, drop, sym, ap, ◌∙◌, arith}
use lib.Seq.{take_all}
use Rattle.fields.proofs.Parts.{listed}
use Rattle.ranges.specs.Tests.{all}
use Rattle.ranges.proofs.{Tests.tests-more}
use Rattle.ranges.proofs.entry.zeros_ok.Goals as goal

abbrev blank : ℕ → Bool
blank b = eqb b 0

pub loop-x-preserved : goal.loop-x-preserved
loop-x-preserved c =
    let l = c.loop-x in
    let tail = take 17 (drop 239 c.args.e.now) in
    ap (λ (b : Bool). b && blank (get_or tail l.x-index 0)) l.invariant ∙ sym (tests-more blank tail l.x-index c.loop-x-test.true)

pub returns : goal.returns
returns c =
    let e = c.args.e.now in
    c.loop-x.invariant ∙ ap (λ (t : List ℕ). all (map blank t)) (take_all c.loop-x.x-index (take 17 (drop 239 e)) c.loop-x-test.false ∙ listed 17 e 239 (omega arith))
