-- File check accepts exactly the bench files, and section look gives back the parts that a file was put together from.
use Prim.Native.Nat.{ℕ, ◌≤◌}
use mathlib.Core.Bool.{Bool, true, false}
use mathlib.Core.List.{List, []}
use mathlib.Core.Path.{◌≡◌, refl, ap, ◌∙◌}
use native.Mathlib.Omega.{arith}
use lib.ListN.{length, get_or}
use borrow.Author.Tests.{le-leb}
use Rattle.common.specs.{Pick.pick, Width.Bytes}
use Rattle.benchfile.specs.declared.row.Row.TheVariants.{Broken}
use Rattle.benchfile.specs.Row.{row_at}
use Rattle.benchfile.specs.File.{start_of, size_of, body_of, sound, file_check, section_number, section_of}
use Rattle.benchfile.specs.Build.{script_of, build, Bench}
use Rattle.benchfile.proofs.Scripts.{rows_of, script-row, script-formed, script-back, rows-lawful}
use Rattle.fields.proofs.Parts.{part_bytes}
use Rattle.benchfile.proofs.{Facts.facts, Apart.body-length, Apart.apart}
use Rattle.benchfile.proofs.Built.{body_0, body_1, body_2, body_3, sound-build}

-- file check gives 0 where the file is sound, and only there
zero-sound : (b : Bool) → ◌≡◌ {A = ℕ} (pick b 0 11) 0 → b ≡ true
zero-sound true h = refl
zero-sound false h = absurd (omega arith)

module _ (f : List ℕ) where
  sound-bench : Bench f → sound f ≡ true
  sound-bench b =
      let short = rw b.is at b.short in
      let script = script-formed b.rows b.formed in
      ap sound b.is
      ∙ sound-build b.settings b.fill b.rom (script_of b.rows) short b.two b.least b.most script

  -- every file that is put together by the rules is accepted
  pub accepted : Bench f → file_check f ≡ 0
  accepted b = rw (sound-bench b)

  body_bytes : Bytes f → (k : ℕ) → Bytes (body_of f k)
  unfolding body_of
  body_bytes small k = part_bytes f (start_of f k) (size_of f k) small

  -- and every accepted file of bytes is put together so
  pub taken-apart : Bytes f → file_check f ≡ 0 → Bench f
  taken-apart small h =
      let t = facts f (zero-sound (sound f) h) in
      let l₀ = body-length f 0 (omega arith) in
      let l₁ = body-length f 1 (omega arith) in
      let script = body_bytes small 3 in
      let e = script-back (body_of f 3) script t.rows in
      record {
        settings = body_of f 0;
        fill = body_of f 1;
        rom = body_of f 2;
        rows = rows_of (body_of f 3);
        is = rw e (apart f t small);
        two = l₀ ∙ t.two;
        least = omega arith;
        most = omega arith;
        formed = rows-lawful (body_of f 3) script t.rows;
        short = t.short;
      }

-- a refused look is empty
pub refused : (f : List ℕ) (k : ℕ) → section_number f k ≡ 11 → section_of f k ≡ []
refused f k h = rw h

-- the sections of a bench file are its parts
module _ (f : List ℕ) (b : Bench f) where
  short : length (build b.settings b.fill b.rom (script_of b.rows)) ≤ 65536
  short = rw b.is at b.short

  section : (k : ℕ) → k ≤ 3 → section_of f k ≡ body_of (build b.settings b.fill b.rom (script_of b.rows)) k
  section k h = rw (le-leb k 3 h, sound-bench f b) (ap (λ (l : List ℕ). body_of l k) b.is)

  pub section_0 : section_of f 0 ≡ b.settings
  section_0 = section 0 (omega arith) ∙ body_0 b.settings b.fill b.rom (script_of b.rows) short

  pub section_1 : section_of f 1 ≡ b.fill
  section_1 = section 1 (omega arith) ∙ body_1 b.settings b.fill b.rom (script_of b.rows) short

  pub section_2 : section_of f 2 ≡ b.rom
  section_2 = section 2 (omega arith) ∙ body_2 b.settings b.fill b.rom (script_of b.rows) short

  pub section_3 : section_of f 3 ≡ script_of b.rows
  section_3 = section 3 (omega arith) ∙ body_3 b.settings b.fill b.rom (script_of b.rows) short

  -- and the rows of its script are its rows
  pub row : (i : ℕ) → row_at (section_of f 3) i ≡ get_or b.rows i Broken
  row i = rw section_3 (script-row b.rows b.formed i)
