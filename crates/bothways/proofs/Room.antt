-- How long the text of a file can be: the buffers of the programs have room for it.
use Prim.Native.Nat.{ℕ, zero, suc, ◌+◌, ◌*◌, ◌/◌, ◌≤◌, ◌<◌}
use mathlib.Core.List.{List, [], ◌∷◌, flat_map}
use mathlib.Core.Path.{◌≡◌, refl}
use native.Mathlib.Omega.{arith}
use lib.Dec.{eqb}
use lib.ListN.{length, take, drop, length-append}
use Rattle.append.specs.{Texts.codes, Texts.each, Number.decimal}
use Rattle.common.proofs.{AllLaws.◌also◌, AllLaws.byte_fits, TableLaws.pick_elim, TableLaws.find_elim}
use Rattle.common.specs.{Pick.pick, Table.at, Width.Bytes}
use Rattle.fields.specs.{Bytes.byte_at, Bytes.part_of, Little.field}
use Rattle.benchfile.specs.Row.{row_bytes}
use Rattle.fields.proofs.Parts.{part_bytes}
use Rattle.append.proofs.Decimal.{short}
use Rattle.lister.specs.Body.{bytes_text, line_text, lines_from, lines_text}
use Rattle.lister.specs.Row.{event_text, flags_text, cycles_text, pad_text, plug_text, back_text, read_text, write_text, answer_text, texts, row_text}
use Rattle.lister.specs.List.{rows_text, script_text, settings_text}

abbrev Short : ℕ → List ℕ → Type 0
Short n l = length l ≤ n

decimal-short : (n : ℕ) → n < 65536 → Short 5 (decimal n)
decimal-short n h = short 4 n (omega arith)

event-short : (e : ℕ) → e < 65536 → Short 12 (event_text e)
unfolding event_text
event-short e h =
    let d = decimal-short e h in
    pick_elim (Short 12) (eqb e 0) (omega arith) (omega arith)

flags-short : (f : ℕ) → Short 11 (flags_text f)
unfolding flags_text
flags-short f =
    find_elim (Short 11) (at 1 (codes " line") ∷ at 2 (codes " timer") ∷ at 3 (codes " line timer") ∷ []) f
    (omega arith also omega arith also omega arith also tt) (omega arith)

cycles-short : (n e f : ℕ) → n < 65536 → e < 65536 → Short 36 (cycles_text n e f)
unfolding cycles_text
cycles-short n e f h k = simp length-append (omega (arith, decimal-short n h, event-short e k, flags-short f))

pad-short : (p l h : ℕ) → p < 65536 → Short 36 (pad_text p l h)
unfolding pad_text
pad-short p l h k = simp length-append (omega (arith, decimal-short p k))

plug-short : (p on : ℕ) → p < 65536 → Short 36 (plug_text p on)
unfolding plug_text
plug-short p on h =
    let w : Short 5 (pick (eqb on 1) (codes " on\n") (codes " off\n")) = pick_elim (Short 5) (eqb on 1) (omega arith) (omega arith) in
    simp length-append (omega (arith, decimal-short p h, w))

back-short : (n : ℕ) → n < 65536 → Short 36 (back_text n)
unfolding back_text
back-short n h = simp length-append (omega (arith, decimal-short n h))

row-short : (b : List ℕ) → Bytes b → Short 36 (row_text b)
unfolding row_text read_text write_text answer_text
row-short b h =
    let h₁ = byte_fits b 1 h in
    let h₂ = byte_fits b 2 h in
    let h₃ = byte_fits b 3 h in
    find_elim (Short 36) (texts b) (byte_at b 0)
    (cycles-short (field 2 b 1) (byte_at b 3) (byte_at b 4) (omega arith) (omega arith)
    also omega arith
    also omega arith
    also pad-short (byte_at b 1) (byte_at b 2) (byte_at b 3) (omega arith)
    also plug-short (byte_at b 1) (byte_at b 2) (omega arith)
    also omega arith
    also back-short (field 2 b 1) (omega arith)
    also tt)
    (omega arith)

rows_short : (s : List ℕ) → Bytes s → (n i : ℕ) → Short (n * 36) (rows_text s n i)
unfolding each
rows_short s h zero i = omega arith
rows_short s h (suc n) i = simp length-append (omega (arith, row-short (row_bytes s i) (part_bytes s (i * 8) 8 h), rows_short s h n (i + 1)))

pub script-short : (s : List ℕ) → Bytes s → Short (length s / 8 * 36) (script_text s)
unfolding script_text
script-short s h = rows_short s h (length s / 8) 0

bytes-length : (l : List ℕ) → length (bytes_text l) ≡ 4 * length l
unfolding flat_map
bytes-length [] = refl
bytes-length (x ∷ l) = simp length-append (omega (arith, bytes-length l))

taken-short : (n : ℕ) (l : List ℕ) → Short n (take n l)
taken-short zero l = omega arith
taken-short (suc n) [] = omega arith
taken-short (suc n) (x ∷ l) = omega (arith, taken-short n l)

module _ (w : List ℕ) (lw : length w ≤ 4) where
  line-short : (l : List ℕ) → length l ≤ 16 → Short 69 (line_text w l)
  unfolding line_text
  line-short [] h = omega arith
  line-short (x ∷ l) h = simp length-append (omega (arith, bytes-length (x ∷ l), lw, h))

  lines_from-short : (l : List ℕ) (n i : ℕ) → Short (n * 69) (lines_from w l n i)
  unfolding each
  lines_from-short l zero i = omega arith
  lines_from-short l (suc n) i =
      simp length-append (omega (arith, line-short (part_of l (i * 16) 16) (taken-short 16 (drop (i * 16) l)), lines_from-short l n (i + 1)))

  pub lines-short : (l : List ℕ) → Short ((length l / 16 + 1) * 69) (lines_text w l)
  unfolding lines_text
  lines-short l = lines_from-short l (length l / 16 + 1) 0

pub settings-short : (n : ℕ) → n < 65536 → Short 16 (settings_text n)
unfolding settings_text
settings-short n h = simp length-append (omega (arith, decimal-short n h))
