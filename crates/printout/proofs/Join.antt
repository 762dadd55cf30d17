-- What is shown of a row by what is asked for, and one step more.
use Rattle.std.proofs.Common.{◌≡◌, ℕ, ◌+◌, ◌/◌, Bool, true, false, eqb, leb, List, length, add-one}
use Rattle.append.specs.Sheet.{Sheet, puts}
use Rattle.append.proofs.Laws.{puts_none}
use Rattle.wording.specs.Line.{line_text, sum_text}
use Rattle.benchfile.specs.Row.{row_bytes}
use Rattle.printout.specs.Row.{Shown, shown_text, row_shown}
use Rattle.printout.specs.Rows.{Standing, after, stepped, steps}
use Rattle.printout.specs.declared.{row.Show.Show, row.Show.TheVariants.Nothing, row.Show.TheVariants.Line, row.Show.TheVariants.Sum}

-- what is shown of a row
module _ (s : Sheet) {show : Show} (row kind number a b sum : ℕ) where
  pub shown-none : show ≡ Nothing → s ≡ puts s (shown_text show row kind number a b sum)
  unfolding shown_text
  shown-none p = cc (puts_none s)

  pub shown-line : {t : Sheet} → show ≡ Line → t ≡ puts s (line_text row kind number a b) → t ≡ puts s (shown_text show row kind number a b sum)
  unfolding shown_text
  shown-line p q = cc

  pub shown-sum : {t : Sheet} → show ≡ Sum → t ≡ puts s (sum_text row sum) → t ≡ puts s (shown_text show row kind number a b sum)
  unfolding shown_text
  shown-sum p q = cc

-- one step more
pub steps_more : {rom lent : List ℕ} (script : List ℕ) (show : Show) (i : ℕ) (t : Standing) {u v : Standing} → u ≡ steps rom script show i t → lent ≡ rom
    → v ≡ stepped lent script show u → v ≡ steps rom script show (i + 1) t
unfolding steps
steps_more script show i t h r k = rw (add-one i) cc

-- a step, where it can be made and where it cannot
module _ (rom script : List ℕ) (show : Show) (s : Standing) where
  pub step_none : leb (length script / 8) s.next ≡ true → s ≡ stepped rom script show s
  unfolding stepped
  step_none a = cc

  module _ (a : leb (length script / 8) s.next ≡ false) where
    pub step_refused : eqb s.number 0 ≡ false → s ≡ stepped rom script show s
    unfolding stepped
    step_refused b = cc

    module _ (b : eqb s.number 0 ≡ true) {t : Bool} (c : t ≡ leb (s.out.at + 105) (length s.out.text)) where
      pub step_full : t ≡ false → s ≡ stepped rom script show s
      unfolding stepped
      step_full e = cc

      pub step_goes : t ≡ true → {row : List ℕ} {o : Shown} → row ≡ row_bytes script s.next → o ≡ row_shown rom row (s.next + 1) show s.desk s.out
          → after s o ≡ stepped rom script show s
      unfolding stepped
      step_goes e p q = cc
