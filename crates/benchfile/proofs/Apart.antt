-- A sound file is its contents and its four bodies, one after the other, and the contents are those of the bodies.
use Prim.Native.Nat.{ℕ, zero, suc, ◌+◌, ◌*◌, ◌≤◌}
use mathlib.Core.List.{List, [], ◌++◌}
use mathlib.Core.Path.{◌≡◌, refl, sym, ap, ap₂, ◌∙◌}
use native.Mathlib.Omega.{arith}
use lib.ListN.{length, take, drop, length-take, length-drop}
use lib.Seq.{take-add, take-length, drop-drop}
use Rattle.common.proofs.AllLaws.{byte_fits}
use Rattle.fields.specs.{Little.le, Little.field, Bytes.part_of}
use Rattle.fields.proofs.{Number.span-back, Parts.listed}
use Rattle.common.specs.Width.{Bytes}
use Rattle.benchfile.specs.File.{start_of, size_of, end_of, body_of}
use Rattle.benchfile.specs.Build.{contents_of, build}
use Rattle.benchfile.proofs.Facts.{Facts}

-- n numbers of four bytes, from place k on
abbrev fours : List ℕ → ℕ → ℕ → List ℕ
fours f zero k = []
fours f (suc n) k = le 4 (field 4 f k) ++ fours f n (k + 4)

module _ (f : List ℕ) (small : Bytes f) where
  four-part : (k : ℕ) → k + 4 ≤ length f → part_of f k 4 ≡ le 4 (field 4 f k)
  four-part k h = listed 4 f k h ∙ sym (span-back f (λ i. byte_fits f i small) 4 k)

  fours-part : (n k : ℕ) → k + n * 4 ≤ length f → part_of f k (n * 4) ≡ fours f n k
  fours-part zero k h = refl
  fours-part (suc n) k h =
      let e : suc n * 4 ≡ 4 + n * 4 = omega arith in
      let here : k + 4 ≤ length f = omega arith in
      let next : k + 4 + n * 4 ≤ length f = omega arith in
      rw (e, take-add 4 (n * 4) (drop k f), drop-drop 4 k f) (ap₂ ◌++◌ (four-part k here) (fours-part n (k + 4) next))

module _ (f : List ℕ) where
  upto : (k : ℕ) → take (start_of f k) f ++ body_of f k ≡ take (end_of f k) f
  unfolding body_of
  upto k = sym (take-add (start_of f k) (size_of f k) f)

  -- a body that lies within the file has its length
  pub body-length : (k : ℕ) → end_of f k ≤ length f → length (body_of f k) ≡ size_of f k
  unfolding body_of
  body-length k h = rw (length-take, length-drop) (omega arith)

module _ (f : List ℕ) (t : Facts f) where
  -- the bodies follow without gap, in order, to the end
  pub bodies : f ≡ take 32 f ++ body_of f 0 ++ body_of f 1 ++ body_of f 2 ++ body_of f 3
  bodies =
      let c : take 32 f ≡ take (start_of f 0) f = ap (λ (n : ℕ). take n f) (sym t.first) in
      sym (rw (c, upto f 0, t.second, upto f 1, t.third, upto f 2, t.fourth, upto f 3, t.last) (take-length f))

module _ (f : List ℕ) (t : Facts f) (small : Bytes f) where
  rows : fours f 8 0
      ≡ le 4 (start_of f 0) ++ le 4 (size_of f 0) ++ le 4 (start_of f 1) ++ le 4 (size_of f 1) ++ le 4 (start_of f 2) ++ le 4 (size_of f 2)
      ++ le 4 (start_of f 3) ++ le 4 (size_of f 3)
  unfolding start_of size_of
  rows = refl

  -- the contents say where the bodies are
  contents : take 32 f ≡ contents_of (size_of f 0) (size_of f 1) (size_of f 2) (size_of f 3)
  unfolding contents_of
  contents =
      let s₁ : start_of f 1 ≡ 32 + size_of f 0 = omega arith in
      let s₂ : start_of f 2 ≡ 32 + size_of f 0 + size_of f 1 = omega arith in
      let s₃ : start_of f 3 ≡ 32 + size_of f 0 + size_of f 1 + size_of f 2 = omega arith in
      fours-part f small 8 0 t.contents ∙ rows ∙ rw (t.first, s₁, s₂, s₃)

  -- a sound file of bytes is put together from its bodies
  pub apart : f ≡ build (body_of f 0) (body_of f 1) (body_of f 2) (body_of f 3)
  unfolding build
  apart =
      let l₀ = body-length f 0 (omega arith) in
      let l₁ = body-length f 1 (omega arith) in
      let l₂ = body-length f 2 (omega arith) in
      let l₃ = body-length f 3 (omega arith) in
      bodies f t ∙ rw (l₀, l₁, l₂, l₃, contents)
