-- A line of bytes: with bytes, and without.
use Prim.Native.Nat.{ℕ}
use mathlib.Core.List.{List, [], ◌∷◌, ◌++◌}
use mathlib.Core.Path.{◌≡◌, refl}
use native.Mathlib.Omega.{arith}
use lib.ListN.{length}
use Rattle.lister.specs.Body.{bytes_text, line_text}

pub line_some : (w l : List ℕ) → (length l ≡ 0 → ⊥) → line_text w l ≡ w ++ (bytes_text l ++ (10 ∷ []))
unfolding line_text
line_some w [] h = absurd (h refl)
line_some w (x ∷ l) h = refl

pub line_none : (w l : List ℕ) → length l ≡ 0 → line_text w l ≡ []
unfolding line_text
line_none w [] h = refl
line_none w (x ∷ l) h = absurd (omega arith)
