-- No line is longer than 105 bytes: five numbers of at most 20 digits, each with a byte after it.
use Prim.Native.Nat.{ℕ, ◌≤◌}
use native.Mathlib.Omega.{arith}
use lib.ListN.{length, length-append}
use Rattle.append.proofs.Decimal.{most}
use Rattle.printout.specs.Row.{shown_text}
use Rattle.wording.specs.Line.{line_text, sum_text}
use Rattle.printout.specs.declared.{row.Show.Show, row.Show.TheVariants.Nothing, row.Show.TheVariants.Line, row.Show.TheVariants.Sum}

pub line-most : (row kind number a b : ℕ) → length (line_text row kind number a b) ≤ 105
unfolding line_text
line-most row kind number a b =
    let m₁ = most row in
    let m₂ = most kind in
    let m₃ = most number in
    let m₄ = most a in
    let m₅ = most b in
    simp length-append (omega arith)

pub shown-most : (show : Show) (row kind number a b sum : ℕ) → length (shown_text show row kind number a b sum) ≤ 105
unfolding shown_text sum_text
shown-most Nothing row kind number a b sum = omega arith
shown-most Line row kind number a b sum = line-most row kind number a b
shown-most Sum row kind number a b sum =
    let m₁ = most row in
    let m₂ = most sum in
    simp length-append (omega arith)
