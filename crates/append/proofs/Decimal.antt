-- The kit's digits of a number, as many as are needed, are its digits in decimal.
use Prim.Native.Nat.{ℕ, zero, suc, ◌+◌, ◌*◌, ◌/◌, ◌%◌, ◌^◌, ◌-◌, ◌≤◌, ◌<◌}
use mathlib.Core.Bool.{Bool, true, false}
use mathlib.Core.List.{List, foldl, foldl-append}
use mathlib.Core.Path.{◌≡◌, refl, sym, ap, ◌∙◌}
use native.Mathlib.Numerals.{unary_clauses}
use native.Mathlib.Omega.{arith}
use native.Mathlib.Nat.{pow-succ', one-le-pow, mod-eq_of_lt, pow-le-pow_right}
use lib.Dec.{leb, ltb}
use lib.ListN.{length, replicate, length-append, length-replicate}
use borrow.Author.Tests.{lt-ltb, le-ltb, leb-true, leb-false}
use Rattle.common.proofs.TableLaws.{pick_elim}
use Rattle.io.specs.Digits.{last_digits, hex_digit_ascii, IsDigitCount}
use Rattle.append.specs.Sheet.{Sheet, push}
use Rattle.append.specs.Number.{decimal_in, decimal, padded}

-- k digits are at most k bytes
most_in : (k n : ℕ) → length (decimal_in k n) ≤ k
unfolding decimal_in
most_in zero n = omega arith
most_in (suc k) n =
    let h = most_in k (n / 10) in
    pick_elim (λ (l : List ℕ). length l ≤ suc k) (ltb n 10) (omega arith) (simp length-append (omega arith))

pub most : (n : ℕ) → length (decimal n) ≤ 20
unfolding decimal
most n = most_in 20 n

-- in a column of at most 20 too
pub most-padded : (w n : ℕ) → w ≤ 20 → length (padded w n) ≤ 20
unfolding padded
most-padded w n h = simp (length-append, length-replicate) (omega (arith, most n))

-- a number under 10^k has at most k digits, whatever room there is for more
short_in : (f k n : ℕ) → n < 10 ^ suc k → length (decimal_in f n) ≤ suc k
unfolding decimal_in
short_in zero k n h = omega arith
short_in (suc f) zero n h =
    let p : n < 10 = omega arith in
    rw (lt-ltb n 10 p) (omega arith)
short_in (suc f) (suc k) n h =
    let p : n < 10 * 10 ^ suc k = rw pow-succ' at h in
    let q = short_in f k (n / 10) (omega arith) in
    pick_elim (λ (l : List ℕ). length l ≤ suc (suc k)) (ltb n 10) (omega arith) (simp length-append (omega arith))

pub short : (k n : ℕ) → n < 10 ^ suc k → length (decimal n) ≤ suc k
unfolding decimal
short k n h = short_in 20 k n h

digit : (n : ℕ) → hex_digit_ascii (n % 10) ≡ 48 + n % 10
digit n = rw (lt-ltb (n % 10) 10 (omega arith))

spelled_in : (f k n : ℕ) → suc k ≤ f → n < 10 ^ suc k → (0 < k → 10 ^ k ≤ n) → last_digits 10 (suc k) n ≡ decimal_in f n
unfolding decimal_in
spelled_in zero k n h a b = absurd (omega arith)
spelled_in (suc f) zero n h a b =
    let p : n < 10 = omega arith in
    rw (digit n, lt-ltb n 10 p) (rw (mod-eq_of_lt p) refl)
spelled_in (suc f) (suc k) n h a b =
    let p : n < 10 * 10 ^ suc k = rw pow-succ' at a in
    let q : 10 * 10 ^ k ≤ n = rw pow-succ' at (b (omega arith)) in
    let o : 1 ≤ 10 ^ k = one-le-pow k 10 (omega arith) in
    let r : n / 10 < 10 ^ suc k = omega arith in
    let s : 10 ^ k ≤ n / 10 = omega arith in
    let e = spelled_in f k (n / 10) (omega arith) r (λ z. s) in
    rw (digit n, le-ltb n 10 (omega arith), ← e) refl

-- a number of 64 bits has at most 20 digits
few-by : (k n : ℕ) → n < 2 ^ 64 → IsDigitCount 10 1 n k → (t : Bool) → leb k 20 ≡ t → k ≤ 20
few-by k n h f true e = leb-true k 20 e
few-by k n h f false e =
    let l : 20 < k = leb-false k 20 e in
    let a : 10 ^ (k - 1) ≤ n = f.2 (omega arith) in
    let p : 0 < 10 = omega arith in
    let q : 20 ≤ k - 1 = omega arith in
    let b : 10 ^ 20 ≤ 10 ^ (k - 1) = pow-le-pow_right p q in
    absurd (omega arith)

pub few : (k n : ℕ) → n < 2 ^ 64 → IsDigitCount 10 1 n k → k ≤ 20
few k n h f = few-by k n h f (leb k 20) refl

-- what io::decimal writes: the fewest digits that hold a number, of which there are at most 20
pub spelled : (k n : ℕ) → k ≤ 20 → IsDigitCount 10 1 n k → last_digits 10 k n ≡ decimal n
unfolding decimal
spelled zero n m h = absurd (omega arith)
spelled (suc k) n m h = spelled_in 20 k n m h.1 (λ z. simp unary_clauses at (h.2 (omega arith)))

-- as those of a number of 64 bits are
pub spelled_u64 : (k n : ℕ) → n < 2 ^ 64 → IsDigitCount 10 1 n k → last_digits 10 k n ≡ decimal n
spelled_u64 k n f h = spelled k n (few k n f h) h

-- as many as it says
as_many : (k n : ℕ) → length (last_digits 10 k n) ≡ k
as_many zero n = refl
as_many (suc k) n = simp length-append (omega (arith, as_many k (n / 10)))

-- and spaces before them
pub put_column : (s : Sheet) (w k n : ℕ) → n < 2 ^ 64 → IsDigitCount 10 1 n k
    → foldl push (foldl push s (replicate (w - k) 32)) (last_digits 10 k n) ≡ foldl push s (padded w n)
unfolding padded
put_column s w k n f h =
    let z : length (decimal n) ≡ k = ap length (sym (spelled_u64 k n f h)) ∙ as_many k n in
    rw (z, spelled_u64 k n f h) (sym (foldl-append push s (replicate (w - k) 32) (decimal n)))
