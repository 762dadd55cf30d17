-- Parts of a list.
use Prim.Native.Nat.{ℕ, zero, suc, ◌+◌, ◌*◌, ◌-◌, ◌≤◌, ◌<◌}
use mathlib.Core.List.{List, [], ◌∷◌, ◌++◌}
use mathlib.Core.Path.{◌≡◌, refl, ap}
use native.Mathlib.Numerals.{add-one}
use native.Mathlib.Omega.{arith}
use lib.ListN.{length, drop, length-drop, drop_of_length-le}
use lib.Seq.{take-nil, take_all, take_at, drop_at, drop-cons}
use Rattle.fields.specs.{Little.span, Little.field, Bytes.byte_at, Bytes.part_of}
use Rattle.common.specs.Width.{Byte, Bytes}
use Rattle.common.proofs.AllLaws.{all_take, all_drop}

module _ (l : List ℕ) (k n : ℕ) where
  pub part_none : length l ≤ k → part_of l k n ≡ []
  part_none h = rw (drop_of_length-le l h) (take-nil n)

  -- where the list ends before, the part is what is left
  pub part-rest : length l - k ≤ n → part_of l k n ≡ drop k l
  part-rest h = take_all n (drop k l) (simp length-drop h)

  -- a part by its end
  pub part_to : part_of l k (k + n - k) ≡ part_of l k n
  part_to = let e : k + n - k ≡ n = omega arith in rw e

-- a number of four bytes by its halves
pub four-halves : (l : List ℕ) (k : ℕ) → field 2 l (k + 2) * 65536 + field 2 l k ≡ field 4 l k
four-halves l k = let e : k + 1 + 1 ≡ k + 2 = omega arith in rw e (omega arith)

-- a part of bytes is bytes
pub part_bytes : (l : List ℕ) (k n : ℕ) → Bytes l → Bytes (part_of l k n)
part_bytes l k n small = all_take Byte n (drop k l) (all_drop Byte k l small)

-- the n bytes from place k on, one by one
pub listed : (n : ℕ) (l : List ℕ) (k : ℕ) → k + n ≤ length l → part_of l k n ≡ span n l k
listed zero l k h = refl
listed (suc n) l k h =
    let here : k < length l = omega arith in
    let next : k + 1 + n ≤ length l = omega arith in
    rw (drop-cons l k 0 here, ← add-one k) (ap (λ (t : List ℕ). byte_at l k ∷ t) (listed n l (k + 1) next))

-- the part behind p
pub part_at : (p q r : List ℕ) {k n : ℕ} → length p ≡ k → length q ≡ n → part_of (p ++ (q ++ r)) k n ≡ q
part_at p q r {k} {n} hp hq = rw (drop_at p (q ++ r) k hp) (take_at q r n hq)
