-- The sections of a sound file: settings, RAM fill, ROM image, script.
use Prim.Native.Nat.{ℕ, ◌≤◌}
use mathlib.Core.Bool.{Bool, true, false}
use mathlib.Core.List.{List, [], ◌++◌}
use mathlib.Core.Path.{◌≡◌, sym, ap, subst, ◌∙◌}
use lib.Dec.{eqb}
use lib.ListN.{length}
use Rattle.common.specs.{Pick.pick, Width.Bytes}
use Rattle.benchfile.specs.File.{start_of, size_of, body_of, script_formed, file_check, section_number, section_of}
use Rattle.benchfile.specs.Build.{build, Bench}
use Rattle.fields.proofs.Parts.{part_bytes}
use Rattle.benchfile.proofs.Scripts.{script-formed}
use Rattle.benchfile.proofs.Format.{taken-apart, section_0, section_1, section_2, section_3}
use Rattle.assembler.specs.Bind.{bound}
use Rattle.bothways.proofs.Bound.{bound-build}

-- bytes of a section, or none
picked : (f : List ℕ) (k : ℕ) → Bytes f → (x : Bool) → Bytes (pick x (body_of f k) [])
unfolding body_of
picked f k small true = part_bytes f (start_of f k) (size_of f k) small
picked f k small false = tt {0}

-- what the sections of a sound file are
module _ (f : List ℕ) (small : Bytes f) (sound : file_check f ≡ 0) where
  abbrev pub apart : Bench f
  apart = taken-apart f small sound

  abbrev pub settings : List ℕ
  settings = section_of f 0

  abbrev pub ram : List ℕ
  ram = section_of f 1

  abbrev pub image : List ℕ
  image = section_of f 2

  abbrev pub script : List ℕ
  script = section_of f 3

  pub bytes : (k : ℕ) → Bytes (section_of f k)
  bytes k = picked f k small (eqb (section_number f k) 0)

  pub two : length settings ≡ 2
  two = ap length (section_0 f apart) ∙ apart.two

  pub least : 1 ≤ length ram
  least = subst (λ (l : List ℕ). 1 ≤ length l) (sym (section_1 f apart)) apart.least

  pub most : length ram ≤ 4096
  most = subst (λ (l : List ℕ). length l ≤ 4096) (sym (section_1 f apart)) apart.most

  pub formed : script_formed script ≡ true
  formed = ap script_formed (section_3 f apart) ∙ script-formed apart.rows apart.formed

  built : build settings ram image script ≡ f
  built =
      ap (λ (l : List ℕ). build l ram image script) (section_0 f apart)
      ∙ ap (λ (l : List ℕ). build apart.settings l image script) (section_1 f apart)
      ∙ ap (λ (l : List ℕ). build apart.settings apart.fill l script) (section_2 f apart)
      ∙ ap (λ (l : List ℕ). build apart.settings apart.fill apart.rom l) (section_3 f apart)
      ∙ sym apart.is

  pub short : length (build settings ram image script) ≤ 65536
  short = subst (λ (l : List ℕ). length l ≤ 65536) (sym built) apart.short

  pub is_bound : bound (settings ++ ram) image script ≡ f
  is_bound = bound-build settings ram image script two short ∙ built
