-- Two wrong answers for file check, section number and section look that their contracts rule out.
use Prim.Native.Nat.{ℕ}
use mathlib.Core.List.{List, [], ◌∷◌}
use mathlib.Core.Logic.{◌≢◌}
use mathlib.Core.Path.{◌≡◌, refl, sym, ap, ◌∙◌}
use native.Mathlib.Omega.{arith}
use lib.ListN.{length}
use Rattle.benchfile.proofs.Format.{accepted, section_0}
use Rattle.benchfile.specs.Build.{Bench, build, script_of, contents_of}
use Rattle.benchfile.specs.File.{sound, file_check, section_number, section_of}

-- settings of bit cycles 264, one byte of fill, no ROM, no row
abbrev file : List ℕ
file = build (8 ∷ 1 ∷ []) (0 ∷ []) [] (script_of [])

plain : Bench file
unfolding build contents_of script_of
plain = record { settings = 8 ∷ 1 ∷ []; fill = 0 ∷ []; rom = []; rows = []; is = refl; two = refl; least = omega arith; most = omega arith; formed = tt; short = omega arith }

-- an empty file accepted
pub check-empty : {r : ℕ} → r ≡ file_check [] → r ≢ 0
unfolding sound
check-empty k z = omega (arith, sym k ∙ z)

-- a bench file refused
pub check-plain : {r : ℕ} → r ≡ file_check file → r ≢ 11
check-plain k z = omega (arith, sym (k ∙ accepted file plain) ∙ z)

-- section 4 accepted
pub section_4 : (f : List ℕ) {r : ℕ} → r ≡ section_number f 4 → r ≢ 0
section_4 f k z = omega (arith, sym k ∙ z)

-- the last section of a bench file refused
pub section_3 : {r : ℕ} → r ≡ section_number file 3 → r ≢ 11
section_3 k z = omega (arith, sym (k ∙ accepted file plain) ∙ z)

-- bytes of section 4
pub look_4 : (f : List ℕ) (x : ℕ) (xs : List ℕ) {r : List ℕ} → r ≡ section_of f 4 → r ≢ x ∷ xs
look_4 f x xs k z = omega (arith, ap (λ (y : List ℕ). length y) (sym k ∙ z))

-- nothing of the settings that are there
pub look-settings : {r : List ℕ} → r ≡ section_of file 0 → r ≢ []
look-settings k z = omega (arith, plain.two, ap (λ (y : List ℕ). length y) (sym (k ∙ section_0 file plain) ∙ z))
