-- A bench file has a length over 0.
use Rattle.std.proofs.Common.{ℕ, zero, suc, ◌≡◌, false, eqb, Some, None, List, arith}
use Rattle.std.proofs.lemmas.Bool.{ne_eqb}
use Rattle.fields.specs.Bytes.{part_of}
use Rattle.benchfile.specs.File.{sound, file_check}
use Rattle.assembler.specs.Assemble.{placed, checked}

over : (l : List ℕ) (n : ℕ) → file_check (part_of l 0 n) ≡ 0 → eqb n 0 ≡ false
unfolding sound
over l zero h = grind (arith, h)
over l (suc n) h = ne_eqb (suc n) 0 (λ e. omega arith)

pub placed-file : (l : List ℕ) (n : ℕ) → file_check (part_of l 0 n) ≡ 0 → placed (checked l n) ≡ Some n
unfolding checked
placed-file l n h = rw (h, over l n h)

pub placed-none : (l : List ℕ) (n : ℕ) → file_check (part_of l 0 n) ≡ 11 → placed (checked l n) ≡ None
unfolding checked
placed-none l n h = rw h

pub ruleset files = (placed-file, placed-none)
