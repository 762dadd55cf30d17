-- The sum beside the image: a machine that keeps its sum keeps those bytes, whatever else is laid over its bytes.
use Prim.Native.Nat.{ℕ, zero, suc, ◌+◌, ◌^◌, ◌≤◌, ◌<◌}
use mathlib.Core.List.{List, [], ◌∷◌, ◌++◌, append-nil}
use mathlib.Core.Path.{◌≡◌, refl, sym, ap, ◌∙◌}
use native.Mathlib.Omega.{arith}
use borrow.Author.Tests.{le-leb}
use lib.ListN.{length, get_or, take, drop, take-append-drop, drop_of_length-le}
use lib.Seq.{drop-cons}
use Rattle.common.proofs.AllLaws.{byte_fits}
use Rattle.common.specs.Width.{Bytes}
use Rattle.fields.proofs.{Number.field_below, Number.span-back, Patch.length-patched, Patch.drop-patched}
use Rattle.fields.specs.{Little.le, Little.span, Patch.patched}
use Rattle.asbytes.specs.Machine.{counted, summed}
use Rattle.asbytes.specs.Places as at
use Rattle.asbytes.specs.Places.{beside, machine_size, sum_at}

-- the bytes from a place on, one by one
span-drop : (n k : ℕ) (s : List ℕ) → k + n ≡ length s → span n s k ≡ drop k s
span-drop zero k s h = sym (drop_of_length-le s {i = k} (omega (arith, h)))
span-drop (suc n) k s h =
    let next : k + 1 ≡ suc k = omega arith in
    (λ i. get_or s k 0 ∷ (span-drop n (k + 1) s (omega (arith, h)) ∙ ap (λ (j : ℕ). drop j s) next) i) ∙ sym (drop-cons s k 0 (omega (arith, h)))

-- ---- the sum

abbrev place : ℕ
place = (beside at.sum).start

module _ (s : List ℕ) (fit : Bytes s) where
  pub sum_fits : sum_at s < 2 ^ 32
  sum_fits = field_below s (λ k. byte_fits s k fit) 4 place

  -- laid over bytes that have it
  same_sum : (x : List ℕ) → length s ≡ machine_size → length x ≡ machine_size → drop place x ≡ drop place s → summed x (sum_at s) ≡ x
  unfolding summed
  same_sum x long here e =
      let bytes : le 4 (sum_at s) ≡ drop place x = span-back s (λ k. byte_fits s k fit) 4 place ∙ span-drop 4 place s (sym long) ∙ sym e in
      let none : drop machine_size x ≡ [] = drop_of_length-le x {i = machine_size} (omega (arith, here)) in
      let laid : summed x (sum_at s) ≡ take place x ++ le 4 (sum_at s) ++ drop machine_size x = rw (le-leb machine_size (length x) (omega (arith, here))) refl in
      laid ∙ (λ i. take place x ++ bytes i ++ none i) ∙ append-nil (take place x ++ drop place x) ∙ take-append-drop place x

  -- the image and the counts keep it
  pub counted-sum : (image : List ℕ) (slot kept room : ℕ) → length s ≡ machine_size → length image ≤ place
      → summed (counted (patched s 0 image) slot kept room) (sum_at s) ≡ counted (patched s 0 image) slot kept room
  unfolding counted
  counted-sum image slot kept room long h =
      let a = patched s 0 image in
      let b = patched a (beside at.slot).start (le 8 slot) in
      let c = patched b (beside at.kept).start (le 8 kept) in
      let behind = drop-patched c (le 8 room) (beside at.length).start place (omega arith)
      ∙ drop-patched b (le 8 kept) (beside at.kept).start place (omega arith)
      ∙ drop-patched a (le 8 slot) (beside at.slot).start place (omega arith)
      ∙ drop-patched s image 0 place (omega (arith, h)) in
      let size = length-patched c (le 8 room) (beside at.length).start
      ∙ length-patched b (le 8 kept) (beside at.kept).start
      ∙ length-patched a (le 8 slot) (beside at.slot).start
      ∙ length-patched s image 0 in
      same_sum (patched c (beside at.length).start (le 8 room)) long (size ∙ long) behind
