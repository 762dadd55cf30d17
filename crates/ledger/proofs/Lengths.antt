-- How long the table is at most: a buffer of 8,192 bytes takes it whole.
use Prim.Native.Nat.{ℕ, zero, suc, ◌+◌, ◌*◌, ◌/◌, ◌%◌, ◌≤◌}
use mathlib.Core.List.{List}
use mathlib.Core.Path.{◌≡◌, ◌∙◌}
use native.Mathlib.Omega.{arith}
use lib.Dec.{ltb}
use lib.ListN.{length, get_or, length-append}
use Rattle.common.proofs.{AllLaws.◌also◌, TableLaws.pick_elim, TableLaws.find_elim}
use Rattle.append.specs.{Sheet.sheet, Sheet.puts, Sheet.shown_of, Texts.codes, Texts.each}
use Rattle.append.proofs.{Decimal.most, Decimal.short, Laws.puts-room}
use Rattle.totals.specs.{Mean.mean_of, declared.Column.Column, declared.folder.Folder.Folder}
use Rattle.ledger.specs.Name.{kinds, kind_text, states, state_text, name_text}
use Rattle.ledger.specs.Figure.{spaced_text, mean_text, figure_text}
use Rattle.ledger.specs.Table.{both_text, table_text}

-- a text of at most so many bytes
abbrev Within : ℕ → List ℕ → Type 0
Within n l = length l ≤ n

kind-most : (k : ℕ) → Within 8 (kind_text k)
unfolding kind_text
kind-most k = find_elim (Within 8) kinds k (omega arith also omega arith also tt) (omega arith)

state-most : (i : ℕ) → Within 12 (state_text i)
unfolding state_text
state-most i =
    find_elim (Within 12) states i (omega arith also omega arith also omega arith also omega arith also tt) (omega arith)

-- a channel has one digit
name_most : (i : ℕ) → Within 12 (name_text i)
unfolding name_text
name_most i =
    pick_elim (Within 12) (ltb i 24) (simp length-append (omega (arith, kind-most (i / 8), short 0 (i % 8) (omega arith)))) (state-most i)

spaced-most : (n : ℕ) → Within 21 (spaced_text n)
unfolding spaced_text
spaced-most n = simp length-append (omega (arith, most n))

mean-most : (sum files : ℕ) → Within 41 (mean_text sum files)
unfolding mean_text
mean-most sum files = simp length-append (omega (arith, most (mean_of sum files).over, most (mean_of sum files).under))

figure_most : (i : ℕ) (word : List ℕ) (c : Column) (files : ℕ) → Within (length word + 117) (figure_text i word c files)
unfolding figure_text
figure_most i word c files =
    let sum = get_or c.sum i 0 in
    simp length-append
    (omega (
      arith,
      name_most i,
      spaced-most sum,
      spaced-most (get_or c.most i 0),
      spaced-most (get_or c.file i 0),
      mean-most sum files,
    ))

both_most : (f : Folder) (i : ℕ) → Within 250 (both_text f i)
unfolding both_text
both_most f i =
    simp length-append
    (omega (arith, figure_most i (codes " all ") f.all f.files, figure_most i (codes " survivors ") f.alive f.files))

each-most : (f : Folder) (n i : ℕ) → Within (n * 250) (each (both_text f) n i)
unfolding each
each-most f zero i = omega arith
each-most f (suc n) i = simp length-append (omega (arith, both_most f i, each-most f n (i + 1)))

-- whatever the numbers, since none has more than 20 digits
pub table-most : (f : Folder) → length (table_text f) ≤ 8192
unfolding table_text
table-most f = omega (arith, each-most f 29 0)

-- put at the start of a buffer of at least 8,192 bytes the table stands there whole
pub table-whole : (out : List ℕ) (f : Folder) → 8192 ≤ length out
    → (shown_of (puts (sheet out 0) (table_text f)) ≡ table_text f) × ((puts (sheet out 0) (table_text f)).at ≡ length (table_text f))
table-whole out f h = let r = puts-room (table_text f) out 0 (omega (arith, table-most f)) in (r.0, r.1 ∙ omega arith)
