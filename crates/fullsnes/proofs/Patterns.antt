-- The B-bus offsets of a unit are the pattern of its mode, over and over.
use Prim.Native.Nat.{ℕ, zero, suc, ◌/◌, ◌%◌, ◌<◌}
use mathlib.Core.Path.{◌≡◌, refl, ◌∙◌}
use native.Mathlib.Omega.{arith}
use lib.ListN.{length, get_or}
use Rattle.common.proofs.RangeLaws.{below-eight}
use Rattle.fullsnes.specs.Said.{pattern_of}
use Rattle.transfer.specs.Pattern.{offset_of, unit_len}

-- what holds at 0 to 3 holds of every place in a unit
places : (P : ℕ → Type 0) → P 0 → P 1 → P 2 → P 3 → (u : ℕ) → u < 4 → P u
places P a b c d zero k = a
places P a b c d (suc zero) k = b
places P a b c d (suc (suc zero)) k = c
places P a b c d (suc (suc (suc zero))) k = d
places P a b c d (suc (suc (suc (suc u)))) k = absurd (omega arith)

-- at 0 and 1, of every place in a unit of two
halves : (P : ℕ → Type 0) → P 0 → P 1 → (u : ℕ) → P (u % 2)
halves P a b u = go (u % 2) (omega arith)
  where
    go : (r : ℕ) → r < 2 → P r
    go zero k = a
    go (suc zero) k = b
    go (suc (suc r)) k = absurd (omega arith)

pub unit-length : (dmap : ℕ) → unit_len dmap ≡ length (pattern_of dmap)
unfolding unit_len
unit-length dmap =
    let e : dmap % 8 % 8 ≡ dmap % 8 = omega arith in
    rw e at (below-eight (λ m. unit_len m ≡ length (pattern_of m)) refl refl refl refl refl refl refl refl (dmap % 8) (omega arith))

-- the byte at place u, where a mode's pattern goes round
abbrev At : ℕ → ℕ → Type 0
At m u = offset_of m u ≡ get_or (pattern_of m) (u % unit_len m) 0

-- by mode
offset_0 : (u : ℕ) → At 0 u
unfolding offset_of unit_len
offset_0 u = let e : u % 1 ≡ 0 = omega arith in rw e

offset_1 : (u : ℕ) → At 1 u
unfolding offset_of unit_len
offset_1 u = halves (λ r. r ≡ get_or (pattern_of 1) r 0) refl refl u

offset_2 : (u : ℕ) → At 2 u
unfolding offset_of unit_len
offset_2 u = halves (λ r. ◌≡◌ {A = ℕ} 0 (get_or (pattern_of 2) r 0)) refl refl u

offset_3 : (u : ℕ) → At 3 u
unfolding offset_of unit_len
offset_3 u =
    let e : u / 2 % 2 ≡ u % 4 / 2 = omega arith in
    e ∙ places (λ r. r / 2 ≡ get_or (pattern_of 3) r 0) refl refl refl refl (u % 4) (omega arith)

offset_4 : (u : ℕ) → At 4 u
unfolding offset_of unit_len
offset_4 u = places (λ r. r ≡ get_or (pattern_of 4) r 0) refl refl refl refl (u % 4) (omega arith)

offset_5 : (u : ℕ) → At 5 u
unfolding offset_of unit_len
offset_5 u =
    let e : u % 2 ≡ u % 4 % 2 = omega arith in
    e ∙ places (λ r. r % 2 ≡ get_or (pattern_of 5) r 0) refl refl refl refl (u % 4) (omega arith)

offset_6 : (u : ℕ) → At 6 u
unfolding offset_of unit_len
offset_6 = offset_2

offset_7 : (u : ℕ) → At 7 u
unfolding offset_of unit_len
offset_7 = offset_3

pub offset : (dmap u : ℕ) → offset_of dmap u ≡ get_or (pattern_of dmap) (u % unit_len dmap) 0
unfolding offset_of unit_len
offset dmap u =
    let e : dmap % 8 % 8 ≡ dmap % 8 = omega arith in
    rw e at (below-eight (λ m. At m u) (offset_0 u) (offset_1 u) (offset_2 u) (offset_3 u) (offset_4 u) (offset_5 u) (offset_6 u) (offset_7 u) (dmap % 8) (omega arith))
