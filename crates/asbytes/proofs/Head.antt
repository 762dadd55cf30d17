-- The first bytes of the machine's are the image: what is read there, and another image laid over it.
use Prim.Native.Nat.{ℕ, zero, suc, ◌+◌, ◌≤◌, ◌<◌}
use mathlib.Core.Bool.{true}
use mathlib.Core.List.{List, ◌∷◌, ◌++◌}
use mathlib.Core.Path.{◌≡◌, refl, sym, ap, ◌∙◌}
use native.Mathlib.Omega.{arith}
use borrow.Author.Tests.{leb-true, le-leb}
use lib.Dec.{leb}
use lib.ListN.{length, get_or, take, drop, take-append-drop}
use lib.Seq.{get_or-take, length-take-le}
use Rattle.common.proofs.TableLaws.{pick_case}
use Rattle.fields.proofs.Front.{laid-front}
use Rattle.fields.specs.{Bytes.byte_at, Little.joined, Little.span, Patch.patched, Table.follow, Table.number_at}
use Rattle.layout.specs.Layout.{num, image_size}
use Rattle.layout.specs.Layout as the
use Rattle.asbytes.specs.Machine.{head_of}
use Rattle.asbytes.specs.Places.{beside, of_beside, machine_size}

-- the numbers beside the image follow it without a gap
beside-follow : follow beside image_size of_beside ≡ true
beside-follow = refl

-- as many bytes as an image has, also where there are too few
pub head-long : (s : List ℕ) → length (head_of s) ≡ image_size
unfolding head_of
head-long s =
    pick_case (λ (l : List ℕ). length l ≡ image_size) (leb image_size (length s)) (λ t. length-take-le image_size s (leb-true image_size (length s) t)) (λ t. refl)

pub head-take : (s : List ℕ) → image_size ≤ length s → head_of s ≡ take image_size s
unfolding head_of
head-take s room = rw (le-leb image_size (length s) room) refl

module _ (s : List ℕ) (long : length s ≡ machine_size) where
  abbrev x : List ℕ
  x = head_of s

  pub head-is : x ≡ take image_size s
  head-is = head-take s (omega (arith, long))

  -- another image in its place
  pub put_is : (e : List ℕ) → length e ≡ image_size → patched s 0 e ≡ e ++ drop image_size s
  put_is = laid-front image_size s (omega (arith, long))

  pub whole : x ++ drop image_size s ≡ s
  whole = ap (λ (l : List ℕ). l ++ drop image_size s) head-is ∙ take-append-drop image_size s

  -- what is read from the bytes is read from the image
  pub place : (k : ℕ) → k < image_size → byte_at s k ≡ byte_at x k
  place k h = sym (ap (λ (l : List ℕ). get_or l k 0) head-is ∙ get_or-take image_size s k 0 h)

  places : (n k : ℕ) → k + n ≤ image_size → span n s k ≡ span n x k
  places zero k h = refl
  places (suc n) k h = λ i. place k (omega (arith, h)) i ∷ places n (k + 1) (omega (arith, h)) i

  numbers : (width start : ℕ) → start + width ≤ image_size → number_at width s start ≡ number_at width x start
  numbers zero k h = refl
  numbers (suc zero) k h = place k (omega (arith, h))
  numbers (suc (suc n)) k h = ap joined (places (suc (suc n)) k h)

  pub same : (f : the.Field) → (the.place f).start + (the.place f).width ≤ image_size → num s f ≡ num x f
  same f h = numbers (the.place f).width (the.place f).start h
