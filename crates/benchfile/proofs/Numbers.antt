-- The two bytes of a number, and the flags of a row.
use Prim.Native.Nat.{ℕ, zero, suc, ◌/◌, ◌%◌, ◌≤◌, ◌<◌}
use mathlib.Core.Bool.{Bool, true, false}
use mathlib.Core.List.{[], ◌∷◌}
use mathlib.Core.Path.{◌≡◌, refl}
use native.Mathlib.Omega.{arith}
use lib.Dec.{leb, eqb}
use Rattle.fields.specs.Little.{joined}
use Rattle.benchfile.specs.Row.{flags_of}

-- two bytes come back from their number
module _ (l h : ℕ) (b : l < 256) where
  pub lo_back : joined (l ∷ h ∷ []) % 256 ≡ l
  lo_back = omega arith

  pub hi-back : joined (l ∷ h ∷ []) / 256 ≡ h
  hi-back = omega arith

-- the flags of a row
pub flags-back : (x : ℕ) → x ≤ 3 → flags_of (eqb (x % 2) 1) (eqb (x / 2) 1) ≡ x
flags-back zero h = refl
flags-back (suc zero) h = refl
flags-back (suc (suc zero)) h = refl
flags-back (suc (suc (suc zero))) h = refl
flags-back (suc (suc (suc (suc n)))) h = absurd (omega arith)

pub flags-small : (due timer : Bool) → leb (flags_of due timer) 3 ≡ true
flags-small true true = refl
flags-small true false = refl
flags-small false true = refl
flags-small false false = refl

pub due-back : (due timer : Bool) → eqb (flags_of due timer % 2) 1 ≡ due
due-back true true = refl
due-back true false = refl
due-back false true = refl
due-back false false = refl

pub timer-back : (due timer : Bool) → eqb (flags_of due timer / 2) 1 ≡ timer
timer-back true true = refl
timer-back true false = refl
timer-back false true = refl
timer-back false false = refl
