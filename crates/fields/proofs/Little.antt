-- The library's little-endian bytes are those of the definitions, and so are the numbers that it makes of bytes.
use Rattle.std.proofs.Common.{ℕ, zero, suc, ◌≡◌, ◌+◌, ◌/◌, ◌%◌, ◌^◌, List, [], ◌∷◌, ◌++◌, get_or, refl, sym, ap, ◌∙◌, arith}
use Rattle.std.specs.Int.{w16, w32, w64, to_le_bytes, bytes_low_first}
use native.Mathlib.Nat.{div-div-eq-div-mul, pow-suc}
use Rattle.fields.specs.Little.{le, span}

-- bytes from byte i on
low_first : (k i x : ℕ) → bytes_low_first (suc i) k x ≡ le k (x / 256 ^ suc i)
low_first zero i x = refl
low_first (suc k) i x =
    let next : x / 256 ^ suc i / 256 ≡ x / 256 ^ suc (suc i) = div-div-eq-div-mul x (256 ^ suc i) 256 ∙ ap (λ (n : ℕ). x / n) (sym (pow-suc 256 (suc i))) in
    ap (λ (l : List ℕ). x / 256 ^ suc i % 256 ∷ l) (low_first k (suc i) x ∙ ap (le k) (sym next))

pub le_two : (x : ℕ) → to_le_bytes w16 x ≡ le 2 x
le_two x = ap (λ (l : List ℕ). x % 256 ∷ l) (low_first 1 0 x)

pub le_four : (x : ℕ) → to_le_bytes w32 x ≡ le 4 x
le_four x = ap (λ (l : List ℕ). x % 256 ∷ l) (low_first 3 0 x)

pub le_eight : (x : ℕ) → to_le_bytes w64 x ≡ le 8 x
le_eight x = ap (λ (l : List ℕ). x % 256 ∷ l) (low_first 7 0 x)

-- one byte more
pub span-suc : (n k : ℕ) (s : List ℕ) → span (suc n) s k ≡ span n s k ++ (get_or s (k + n) 0 ∷ [])
span-suc zero k s = let e : k + 0 ≡ k = omega arith in rw e refl
span-suc (suc n) k s =
    let e : k + 1 + n ≡ k + suc n = omega arith in
    ap (λ (l : List ℕ). get_or s k 0 ∷ l) (span-suc n (k + 1) s ∙ ap (λ (j : ℕ). span n s (k + 1) ++ (get_or s j 0 ∷ [])) e)
