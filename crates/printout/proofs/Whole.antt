-- What the steps put into the buffer, followed by what is still to be printed, is the whole text; so the parts that a program writes
-- one after another are the trace's text.
use Prim.Native.Nat.{ℕ, zero, suc, ◌+◌, ◌-◌, ◌/◌, ◌≤◌, ◌<◌}
use mathlib.Core.Bool.{Bool, true, false}
use mathlib.Core.List.{List, [], ◌++◌, append_assoc}
use mathlib.Core.Path.{◌≡◌, refl, sym, ap, ◌∙◌}
use native.Mathlib.Omega.{arith}
use lib.Dec.{leb, eqb}
use lib.ListN.{length}
use borrow.Author.Tests.{leb-true, leb-false, le-leb, lt-leb, eq-eqb, ne_eqb}
use Rattle.common.proofs.TableLaws.{pick_elim}
use Rattle.common.specs.Pick.{pick}
use Rattle.bench.specs.Calls.{Desk, desk}
use Rattle.benchfile.specs.{File.body_of, File.file_check, Row.row_bytes, Row.row_of}
use Rattle.script.specs.{Run.Running, Row.row_run}
use Rattle.append.specs.Sheet.{sheet, puts, shown_of}
use Rattle.append.proofs.Laws.{puts-room}
use Rattle.ring.proofs.Also.{neither}
use Rattle.start.specs.Start.{made_for, refusal_of, Starting, start_run}
use Rattle.printout.specs.Row.{text_of, row_shown}
use Rattle.wording.specs.Line.{line_text, refused_text}
use Rattle.printout.specs.Rows.{Standing, start, after, stepped, steps}
use Rattle.printout.specs.declared.{row.Show.Show, row.Show.TheVariants.Line, row.Show.TheVariants.Sum}
use Rattle.printout.specs.Trace.{lines_from, rest_of, whole_of, zeros, rows_text, trace_text, sums_text}
use Rattle.printout.proofs.Most.{line-most, shown-most}

module _ (rom script : List ℕ) (show : Show) where
  -- the first of the rows left, run
  rest_after : (s : Standing) → Running → List ℕ
  rest_after s x = pick (eqb x.number 0) (lines_from rom script show (length script / 8 - (s.next + 1)) (s.next + 1) x.desk) []

  rest-line : (s : Standing) → s.next < length script / 8 → eqb s.number 0 ≡ true
      → rest_of rom script show s ≡ text_of show (s.next + 1) (row_bytes script s.next) (row_run rom (row_of (row_bytes script s.next)) s.desk) ++ rest_after s (row_run rom (row_of (row_bytes script s.next)) s.desk)
  unfolding lines_from rest_after
  rest-line s n z =
      let k : length script / 8 - s.next ≡ suc (length script / 8 - (s.next + 1)) = omega arith in
      rw (z, k) refl

  line_kept : (s : Standing) → s.next < length script / 8 → eqb s.number 0 ≡ true → s.out.at + 105 ≤ length s.out.text
      → whole_of rom script show (after s (row_shown rom (row_bytes script s.next) (s.next + 1) show s.desk s.out)) ≡ whole_of rom script show s
  unfolding row_shown whole_of rest_after
  line_kept s n z r =
      let row = row_bytes script s.next in
      let x = row_run rom (row_of row) s.desk in
      let line = text_of show (s.next + 1) row x in
      let old = shown_of s.out in
      let m : length line ≤ 105 = shown-most show _ _ _ _ _ _ in
      let g = puts-room line s.out.text s.out.at (omega arith) in
      ap (λ (l : List ℕ). l ++ rest_after s x) g.0 ∙ append_assoc old line (rest_after s x) ∙ ap (λ (l : List ℕ). old ++ l) (sym (rest-line s n z))

  kept_by : (s : Standing) (a b c : Bool) → leb (length script / 8) s.next ≡ a → eqb s.number 0 ≡ b
      → leb (s.out.at + 105) (length s.out.text) ≡ c → whole_of rom script show (stepped rom script show s) ≡ whole_of rom script show s
  unfolding stepped
  kept_by s true b c p q r = rw p refl
  kept_by s false false c p q r = rw (p, q) refl
  kept_by s false true false p q r = rw (p, q, r) refl
  kept_by s false true true p q r = rw (p, q, r) (line_kept s (leb-false _ _ p) q (leb-true _ _ r))

  steps-kept : (n : ℕ) (s : Standing) → whole_of rom script show (steps rom script show n s) ≡ whole_of rom script show s
  unfolding steps
  steps-kept zero s = refl
  steps-kept (suc n) s = kept_by (steps rom script show n s) _ _ _ refl refl refl ∙ steps-kept n s

  -- what a call of run_rows leaves in the buffer, followed by what is still to be printed, is the text of the rows from `first` on
  pub part-text : (d : Desk) (first : ℕ) (out : List ℕ) (n : ℕ)
      → lines_from rom script show (length script / 8 - first) first d ≡ whole_of rom script show (steps rom script show n (start d first out))
  unfolding whole_of
  part-text d first out n = sym (steps-kept n (start d first out))

  -- a step never goes back, and goes on where a row is left, none was refused and its line has room
  onward-by : (s : Standing) (a b c : Bool) → leb (length script / 8) s.next ≡ a → eqb s.number 0 ≡ b
      → leb (s.out.at + 105) (length s.out.text) ≡ c → s.next ≤ (stepped rom script show s).next
  unfolding stepped
  onward-by s true b c p q r = rw p (omega arith)
  onward-by s false false c p q r = rw (p, q) (omega arith)
  onward-by s false true false p q r = rw (p, q, r) (omega arith)
  onward-by s false true true p q r = rw (p, q, r) (omega arith)

  -- so a call of run_rows with room for a line runs at least one of the rows that are left
  pub goes_on : (n : ℕ) (s : Standing) → s.next < length script / 8 → s.number ≡ 0 → s.out.at + 105 ≤ length s.out.text
      → s.next < (steps rom script show (suc n) s).next
  unfolding steps stepped
  goes_on zero s h z r = rw (lt-leb _ _ h, eq-eqb _ _ z, le-leb _ _ r) (omega arith)
  goes_on (suc n) s h z r =
      let t = steps rom script show (suc n) s in
      let k : s.next < t.next = goes_on n s h z r in
      let l : t.next ≤ (stepped rom script show t).next = onward-by t _ _ _ refl refl refl in
      omega arith

module _ (f : List ℕ) where
  abbrev number : ℕ
  number = refusal_of f zeros zeros

  abbrev begun : Starting
  begun = start_run f zeros zeros

  -- what is shown of the rows from the first, on what `begin` leaves
  abbrev begun_text : Show → List ℕ
  begun_text show = lines_from (body_of f 2) (body_of f 3) show (length (body_of f 3) / 8 - 0) 0 (desk begun.start.bench begun.low begun.high zeros)

  -- a file that can be run
  module _ (z : number ≡ 0) where
    rows_start : (show : Show) → rows_text show f ≡ begun_text show
    unfolding start_run refusal_of
    rows_start show =
        let n = length (body_of f 3) / 8 in
        let k : n - 0 ≡ n = omega arith in
        rw (eq-eqb number 0 z, eq-eqb (file_check f) 0 (neither (file_check f) (made_for f zeros zeros).number z).0, k) refl

    pub trace-starts : trace_text f ≡ begun_text Line
    unfolding trace_text
    trace-starts = rw (eq-eqb number 0 z) (rows_start Line)

    pub sums_start : sums_text f ≡ begun_text Sum
    unfolding sums_text
    sums_start = rw (eq-eqb number 0 z) (rows_start Sum)

  -- one that cannot be run: its only line, and no sum
  module _ (z : number ≡ 0 → ⊥) where
    start-number : begun.start.number ≡ number
    unfolding start_run
    start-number = pick_elim (λ (x : Starting). x.start.number ≡ number) (eqb (file_check f) 0) (rw (ne_eqb number 0 z) refl) (rw (ne_eqb number 0 z) refl)

    pub trace-refused : (out : List ℕ) → 105 ≤ length out → shown_of (puts (sheet out 0) (line_text 0 0 begun.start.number 0 0)) ≡ trace_text f
    unfolding trace_text refused_text
    trace-refused out r =
        let m = line-most 0 0 number 0 0 in
        rw (ne_eqb number 0 z)
        (ap (λ (n : ℕ). shown_of (puts (sheet out 0) (line_text 0 0 n 0 0))) start-number ∙ (puts-room (line_text 0 0 number 0 0) out 0 (omega arith)).0)

    pub sums_refused : sums_text f ≡ []
    unfolding sums_text
    sums_refused = rw (ne_eqb number 0 z) refl
