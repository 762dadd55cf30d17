-- What the lowest set bit means, and that a unit has at most four bytes.
use Rattle.std.proofs.Common.{◌≡◌, ℕ, zero, suc, ◌/◌, ◌%◌, ◌^◌, ◌<◌, ◌≤◌, eqb, refl, mul_comm, pow-suc, arith}
use native.Mathlib.Nat.{div-div-eq-div-mul}
use lib.Count.{count_trailing_zeros, under}
use Rattle.common.proofs.TableLaws.{pick_elim}
use Rattle.transfer.specs.{Bits.lowest, Pattern.unit_len}

-- below a digit: less than suc k where the digit is set, or where the rest is below k
under_lt : (d t k : ℕ) → (d ≡ 0 → t < k) → under d t < suc k
under_lt zero t k f = omega (arith, f refl)
under_lt (suc d) t k f = omega arith

trailing_lt : (k n : ℕ) → 0 < n → n < 2 ^ k → count_trailing_zeros k n < k
unfolding count_trailing_zeros
trailing_lt zero n p h = omega arith
trailing_lt (suc k) n p h =
    under_lt (n % 2) (count_trailing_zeros k (n / 2)) k
    (λ (e : n % 2 ≡ 0). trailing_lt k (n / 2) (omega arith) (omega (arith, pow-suc 2 k)))

-- a mask of eight bits that is not 0 has its lowest set bit below 8
pub lowest_lt : (m : ℕ) → 0 < m → m < 256 → lowest m < 8
lowest_lt m p h = trailing_lt 8 m p h

-- below a digit, the bit there is set
set-under : (d t n : ℕ) → (d ≡ 0 → n / 2 / 2 ^ t % 2 ≡ 1) → d ≡ n % 2 → n / 2 ^ under d t % 2 ≡ 1
set-under zero t n f e = rw (pow-suc 2 t, mul_comm (2 ^ t) 2, ← div-div-eq-div-mul n 2 (2 ^ t)) (f refl)
set-under (suc d) t n f e = omega arith

trailing_set : (k n : ℕ) → 0 < n → n < 2 ^ k → n / 2 ^ count_trailing_zeros k n % 2 ≡ 1
unfolding count_trailing_zeros
trailing_set zero n p h = omega arith
trailing_set (suc k) n p h =
    set-under (n % 2) (count_trailing_zeros k (n / 2)) n
    (λ (e : n % 2 ≡ 0). trailing_set k (n / 2) (omega arith) (omega (arith, pow-suc 2 k))) refl

pub unit_len-le : (d : ℕ) → unit_len d ≤ 4
unfolding unit_len
unit_len-le d =
    let Small : ℕ → Type 0 = λ (n : ℕ). n ≤ 4 in
    pick_elim Small (eqb (d % 8) 0) (omega arith)
    (pick_elim Small (eqb (d % 8) 1) (omega arith)
    (pick_elim Small (eqb (d % 8) 2) (omega arith)
    (pick_elim Small (eqb (d % 8) 6) (omega arith) (omega arith))))

none-under : (d t n j : ℕ) → ((i : ℕ) → i < t → n / 2 / 2 ^ i % 2 ≡ 0) → d ≡ n % 2 → j < under d t → n / 2 ^ j % 2 ≡ 0
none-under zero t n zero f e h = omega arith
none-under zero t n (suc i) f e h = rw (pow-suc 2 i, mul_comm (2 ^ i) 2, ← div-div-eq-div-mul n 2 (2 ^ i)) (f i (omega arith))
none-under (suc d) t n j f e h = omega arith

trailing_none : (k n j : ℕ) → j < count_trailing_zeros k n → n / 2 ^ j % 2 ≡ 0
unfolding count_trailing_zeros
trailing_none zero n j h = omega arith
trailing_none (suc k) n j h = none-under (n % 2) (count_trailing_zeros k (n / 2)) n j (trailing_none k (n / 2)) refl h

-- the lowest set bit: it is set, and no lower one is
pub lowest_set : (m : ℕ) → 0 < m → m < 256 → m / 2 ^ lowest m % 2 ≡ 1
lowest_set m p h = trailing_set 8 m p h

pub lowest-none : (m j : ℕ) → j < lowest m → m / 2 ^ j % 2 ≡ 0
lowest-none m j h = trailing_none 8 m j h
