-- The fill over a bank, byte by byte.
use Prim.Native.Nat.{ℕ, zero, suc, ◌+◌, ◌%◌, ◌≤◌, ◌<◌}
use mathlib.Core.List.{List, [], ◌∷◌, ◌++◌, append_assoc, append-nil}
use mathlib.Core.Path.{◌≡◌, refl, sym, ap, ◌∙◌}
use native.Mathlib.Numerals.{add-one}
use native.Mathlib.Omega.{arith}
use lib.ListN.{length, get_or, drop, set, length-append, drop_of_length-le}
use lib.Seq.{drop-cons, set_at}
use borrow.Author.Tests.{eq-eqb, ne_eqb}
use Rattle.start.specs.Fill.{repeated, filled}

module _ (fill : List ℕ) where
  pub repeated-length : (n : ℕ) → length (repeated fill n) ≡ n
  unfolding repeated
  repeated-length zero = refl
  repeated-length (suc n) = let h = repeated-length n in simp length-append (omega arith)

  pub fill_start : (b : List ℕ) → b ≡ repeated fill 0 ++ drop 0 b
  unfolding repeated
  fill_start b = refl

  pub fill_more : (b₀ b : List ℕ) (i : ℕ) → i < length b₀ → b ≡ repeated fill i ++ drop i b₀
      → set b i (get_or fill (i % length fill) 0) ≡ repeated fill (i + 1) ++ drop (i + 1) b₀
  unfolding repeated
  fill_more b₀ b i h e =
      let x = get_or fill (i % length fill) 0 in
      rw (e, drop-cons b₀ i 0 h, add-one)
      (set_at (repeated fill i) (get_or b₀ i 0) (drop (suc i) b₀) x i (repeated-length i)
      ∙ sym (append_assoc (repeated fill i) (x ∷ []) (drop (suc i) b₀)))

  pub fill_end : (b₀ b : List ℕ) (i : ℕ) → i ≤ length b₀ → length b₀ ≤ i → (length fill ≡ 0 → ⊥) → b ≡ repeated fill i ++ drop i b₀ → b ≡ filled b₀ fill
  unfolding filled
  fill_end b₀ b i p q z e =
      let k : i ≡ length b₀ = omega arith in
      rw (ne_eqb (length fill) 0 z) (e ∙ ap (λ (l : List ℕ). repeated fill i ++ l) (drop_of_length-le b₀ q) ∙ append-nil (repeated fill i) ∙ ap (repeated fill) k)

  pub fill-empty : (b : List ℕ) → length fill ≡ 0 → b ≡ filled b fill
  unfolding filled
  fill-empty b z = rw (eq-eqb (length fill) 0 z)
