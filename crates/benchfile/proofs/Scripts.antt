-- A script and its rows, there and back.
use Prim.Native.Nat.{ℕ, zero, suc, ◌+◌, ◌*◌, ◌/◌, ◌≤◌, ◌<◌}
use mathlib.Core.Bool.{true}
use mathlib.Core.List.{List, [], ◌∷◌, ◌++◌}
use mathlib.Core.Path.{◌≡◌, refl, sym, ap, ◌∙◌}
use native.Mathlib.Omega.{arith}
use lib.ListN.{length, get_or, drop, length-append, take-append-drop, drop_of_length-le}
use lib.Seq.{take_at, drop-append-add, drop-drop}
use Rattle.benchfile.specs.declared.{row.Row.Row, row.Row.TheVariants.Broken}
use Rattle.common.specs.Width.{Bytes}
use Rattle.benchfile.specs.Row.{formed_row, row_bytes, row_at, bytes_of, FitRow, lawful}
use Rattle.benchfile.specs.{File.script_formed, Build.Lawful, Build.script_of}
use Rattle.fields.proofs.Parts.{part_bytes}
use Rattle.benchfile.proofs.Rows.{all, past, whole, script}
use Rattle.benchfile.proofs.RowBytes.{eight, formed-bytes, row-bytes, row_fits, bytes-row}

-- n rows of a script from row i on
unfoldable pub rows_from : List ℕ → ℕ → ℕ → List Row
rows_from s zero i = []
rows_from s (suc n) i = row_at s i ∷ rows_from s n (suc i)

-- the rows of a script
abbrev pub rows_of : List ℕ → List Row
rows_of s = rows_from s (length s / 8) 0

pub length-script : (rs : List Row) → length (script_of rs) ≡ length rs * 8
unfolding script_of
length-script [] = refl
length-script (r ∷ rs) = rw (length-append, eight r, length-script rs) (omega arith)

-- the rows of 8 bytes and what follows them
module _ (b s : List ℕ) (h : length b ≡ 8) where
  row_first : row_bytes (b ++ s) 0 ≡ b
  row_first = take_at b s 8 h

  row_next : (i : ℕ) → row_bytes (b ++ s) (suc i) ≡ row_bytes s i
  row_next i = let e : suc i * 8 ≡ length b + i * 8 = omega arith in rw (e, drop-append-add)

-- a row of a script is that row
pub script-row : (rs : List Row) → Lawful rs → (i : ℕ) → row_at (script_of rs) i ≡ get_or rs i Broken
unfolding script_of
script-row [] h i = past [] i (omega arith)
script-row (r ∷ rs) h zero = rw (row_first (bytes_of r) (script_of rs) (eight r), row-bytes r h.0, h.1)
script-row (r ∷ rs) h (suc i) = rw (row_next (bytes_of r) (script_of rs) (eight r) i) (script-row rs h.2 i)

formed-rows : (rs : List Row) → Lawful rs → (i : ℕ) → i < length rs → formed_row (row_bytes (script_of rs) i) ≡ true
unfolding script_of
formed-rows [] h i l = absurd (omega arith)
formed-rows (r ∷ rs) h zero l = rw (row_first (bytes_of r) (script_of rs) (eight r), formed-bytes r h.0) h.1
formed-rows (r ∷ rs) h (suc i) l = rw (row_next (bytes_of r) (script_of rs) (eight r) i) (formed-rows rs h.2 i (omega arith))

pub script-formed : (rs : List Row) → Lawful rs → script_formed (script_of rs) ≡ true
script-formed rs h =
    let n = length-script rs in
    whole (script_of rs) (omega arith) (length rs) (omega arith) (omega arith) (all (script_of rs) (length rs) (formed-rows rs h))

-- one row and what follows it
row_and_rest : (s : List ℕ) (i : ℕ) → row_bytes s i ++ drop (suc i * 8) s ≡ drop (i * 8) s
row_and_rest s i =
    let e : suc i * 8 ≡ i * 8 + 8 = omega arith in
    rw (e, ← drop-drop 8 (i * 8) s) (take-append-drop 8 (drop (i * 8) s))

module _ (s : List ℕ) (small : Bytes s) where
  written : (i : ℕ) → formed_row (row_bytes s i) ≡ true → bytes_of (row_at s i) ≡ row_bytes s i
  written i h = bytes-row (row_bytes s i) (part_bytes s (i * 8) 8 small) h

  fits : (i : ℕ) → FitRow (row_at s i)
  fits i = row_fits (row_bytes s i) (part_bytes s (i * 8) 8 small)

  -- a well-formed row is not broken, and its count is 1 up
  pub row_lawful : (i : ℕ) → formed_row (row_bytes s i) ≡ true → lawful (row_at s i) ≡ true
  row_lawful i h = sym (formed-bytes (row_at s i) (fits i)) ∙ ap formed_row (written i h) ∙ h

  rest_back : (n i : ℕ) → (i + n) * 8 ≡ length s → ((j : ℕ) → j < i + n → formed_row (row_bytes s j) ≡ true)
      → script_of (rows_from s n i) ≡ drop (i * 8) s
  unfolding script_of rows_from
  rest_back zero i e h = let end : length s ≤ i * 8 = omega arith in sym (drop_of_length-le s end)
  rest_back (suc n) i e h =
      rw (written i (h i (omega arith)), rest_back n (suc i) (omega arith) (λ j l. h j (omega arith))) (row_and_rest s i)

  rest-lawful : (n i : ℕ) → ((j : ℕ) → j < i + n → formed_row (row_bytes s j) ≡ true) → Lawful (rows_from s n i)
  unfolding rows_from
  rest-lawful zero i h = tt
  rest-lawful (suc n) i h = (fits i, row_lawful i (h i (omega arith)), rest-lawful n (suc i) (λ j l. h j (omega arith)))

-- a well-formed script is that of its rows, and each of them can stand in one
module _ (s : List ℕ) (small : Bytes s) (h : script_formed s ≡ true) where
  pub script-back : script_of (rows_of s) ≡ s
  script-back = rest_back s small (length s / 8) 0 (omega (arith, (script s h).0)) (λ j l. (script s h).1 j (omega arith))

  pub rows-lawful : Lawful (rows_of s)
  rows-lawful = rest-lawful s small (length s / 8) 0 (λ j l. (script s h).1 j (omega arith))
