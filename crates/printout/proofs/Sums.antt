-- What the program of the sums prints after each row is the sum of all bytes in both banks.
use Prim.Native.Nat.{ℕ, zero, suc, ◌+◌, ◌/◌}
use mathlib.Core.List.{List, [], ◌++◌}
use mathlib.Core.Path.{◌≡◌, refl}
use borrow.Author.Tests.{eqb-false, eq-eqb}
use lib.Dec.{eqb}
use lib.ListN.{length}
use Rattle.bench.specs.Calls.{Desk, FreshOut, fresh_call}
use Rattle.benchfile.specs.{File.body_of, File.file_check, Row.row_bytes, Row.row_of}
use Rattle.common.proofs.TableLaws.{pick_case}
use Rattle.common.specs.Pick.{pick}
use Rattle.fields.specs.Little.{field}
use Rattle.ring.specs.Refusal.{fresh_number}
use Rattle.script.proofs.Sums.{True, row-true}
use Rattle.script.specs.Row.{row_run}
use Rattle.start.specs.Start.{filled_by, made_for, refusal_of}
use Rattle.wording.specs.Line.{sum_text}
use Rattle.wram.specs.{Banks.banks, Sum.ram_sum}
use Rattle.ring.proofs.Also.{neither}
use Rattle.printout.specs.Row.{shown_text}
use Rattle.printout.specs.Trace.{lines_from, zeros, first_desk, sums_text, added_lines}
use Rattle.printout.specs.declared.row.Show.TheVariants.{Sum}

-- rows run on a desk whose sum is that of its banks
lines-true : (rom script : List ℕ) (n i : ℕ) (d : Desk) → True d → lines_from rom script Sum n i d ≡ added_lines rom script n i d
unfolding lines_from added_lines shown_text
lines-true rom script zero i d t = refl
lines-true rom script (suc n) i d t =
    let r = row_run rom (row_of (row_bytes script i)) d in
    let s = row-true d t rom (row_of (row_bytes script i)) in
    let rest = lines-true rom script n (i + 1) r.desk s in
    λ j. sum_text (i + 1) (s j) ++ pick (eqb r.number 0) (rest j) []

-- an accepted fresh adds them up
fresh-true : (l h : List ℕ) (room bits : ℕ) → (fresh_call l h room bits).number ≡ 0 → (fresh_call l h room bits).bench.sum ≡ ram_sum (banks l h)
unfolding fresh_call
fresh-true l h room bits =
    pick_case (λ (o : FreshOut). o.number ≡ 0 → o.bench.sum ≡ ram_sum (banks l h)) (eqb (fresh_number (length l) (length h) room bits) 0)
    (λ e q. refl) (λ e q. absurd (eqb-false (fresh_number (length l) (length h) room bits) 0 e q))

module _ (f : List ℕ) (z : refusal_of f zeros zeros ≡ 0) where
  first-true : True (first_desk f)
  unfolding made_for refusal_of
  first-true = fresh-true (filled_by f zeros) (filled_by f zeros) 65536 (field 2 (body_of f 0) 0) (neither (file_check f) (made_for f zeros zeros).number z).1

  pub sums_added : sums_text f ≡ added_lines (body_of f 2) (body_of f 3) (length (body_of f 3) / 8) 0 (first_desk f)
  unfolding sums_text
  sums_added = rw (eq-eqb (refusal_of f zeros zeros) 0 z) (lines-true (body_of f 2) (body_of f 3) (length (body_of f 3) / 8) 0 (first_desk f) first-true)
