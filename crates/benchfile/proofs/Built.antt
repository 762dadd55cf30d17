-- A file put together from its parts is sound, and its sections are the parts.
use Prim.Native.Nat.{ℕ, ◌+◌, ◌≤◌}
use mathlib.Core.Bool.{true}
use mathlib.Core.List.{List, [], ◌++◌, append_assoc, append-nil}
use mathlib.Core.Path.{◌≡◌, refl, sym, ap, ◌∙◌}
use native.Mathlib.Omega.{arith}
use lib.ListN.{length, length-append}
use Rattle.fields.specs.{Little.le, Little.joined, Bytes.part_of}
use Rattle.fields.proofs.{Number.number, Parts.part_at}
use Rattle.benchfile.specs.File.{start_of, size_of, body_of, script_formed, sound}
use Rattle.benchfile.specs.Build.{contents_of, build}
use Rattle.benchfile.proofs.Facts.{sound-by}

module _ (s f r c : List ℕ) where
  abbrev front : List ℕ
  front = contents_of (length s) (length f) (length r) (length c)

  front_32 : length front ≡ 32
  unfolding contents_of
  front_32 = refl

  pub length-build : length (build s f r c) ≡ 32 + length s + length f + length r + length c
  unfolding build
  length-build = simp (length-append, front_32)

module _ (s f r c : List ℕ) (short : length (build s f r c) ≤ 65536) where
  -- a length of a part comes back from its four bytes
  back : (x : ℕ) → x ≤ 32 + length s + length f + length r + length c → joined (le 4 x) ≡ x
  back x h = number 4 x (omega (arith, length-build s f r c))

  start_0 : start_of (build s f r c) 0 ≡ 32
  unfolding start_of build contents_of
  start_0 = refl

  start_1 : start_of (build s f r c) 1 ≡ 32 + length s
  unfolding start_of build contents_of
  start_1 = back (32 + length s) (omega arith)

  start_2 : start_of (build s f r c) 2 ≡ 32 + length s + length f
  unfolding start_of build contents_of
  start_2 = back (32 + length s + length f) (omega arith)

  start_3 : start_of (build s f r c) 3 ≡ 32 + length s + length f + length r
  unfolding start_of build contents_of
  start_3 = back (32 + length s + length f + length r) (omega arith)

  size_0 : size_of (build s f r c) 0 ≡ length s
  unfolding size_of build contents_of
  size_0 = back (length s) (omega arith)

  size_1 : size_of (build s f r c) 1 ≡ length f
  unfolding size_of build contents_of
  size_1 = back (length f) (omega arith)

  size_2 : size_of (build s f r c) 2 ≡ length r
  unfolding size_of build contents_of
  size_2 = back (length r) (omega arith)

  size_3 : size_of (build s f r c) 3 ≡ length c
  unfolding size_of build contents_of
  size_3 = back (length c) (omega arith)

  body_at : (k : ℕ) (p q t : List ℕ) → build s f r c ≡ p ++ (q ++ t) → start_of (build s f r c) k ≡ length p
      → size_of (build s f r c) k ≡ length q → body_of (build s f r c) k ≡ q
  unfolding body_of
  body_at k p q t e hp hq = ap (λ (l : List ℕ). part_of l (start_of (build s f r c) k) (size_of (build s f r c) k)) e ∙ part_at p q t (sym hp) (sym hq)

  pub body_0 : body_of (build s f r c) 0 ≡ s
  unfolding build
  body_0 = body_at 0 (front s f r c) s (f ++ r ++ c) (simp append_assoc) (start_0 ∙ sym (front_32 s f r c)) size_0

  pub body_1 : body_of (build s f r c) 1 ≡ f
  unfolding build
  body_1 =
      body_at 1 (front s f r c ++ s) f (r ++ c) (simp append_assoc) (start_1 ∙ simp (length-append, front_32 s f r c)) size_1

  pub body_2 : body_of (build s f r c) 2 ≡ r
  unfolding build
  body_2 =
      body_at 2 (front s f r c ++ s ++ f) r c (simp append_assoc) (start_2 ∙ simp (length-append, front_32 s f r c)) size_2

  pub body_3 : body_of (build s f r c) 3 ≡ c
  unfolding build
  body_3 =
      body_at 3 (front s f r c ++ s ++ f ++ r) c [] (simp append-nil) (start_3 ∙ simp (length-append, front_32 s f r c)) size_3

  pub sound-build : length s ≡ 2 → 1 ≤ length f → length f ≤ 4096 → script_formed c ≡ true → sound (build s f r c) ≡ true
  sound-build two least most rows =
      sound-by (build s f r c)
      (record {
        contents = omega (arith, length-build s f r c);
        short = short;
        first = start_0;
        second = omega (arith, start_0, size_0, start_1);
        third = omega (arith, start_1, size_1, start_2);
        fourth = omega (arith, start_2, size_2, start_3);
        last = omega (arith, start_3, size_3, length-build s f r c);
        two = size_0 ∙ two;
        least = omega (arith, size_1);
        most = omega (arith, size_1);
        rows = ap script_formed body_3 ∙ rows;
      })
