-- Bytes laid within the first bytes of a list: those behind them stay.
use Prim.Native.Nat.{ℕ, ◌+◌, ◌≤◌}
use mathlib.Core.Path.{◌≡◌, refl, sym, ap, ◌∙◌}
use mathlib.Core.List.{List, ◌++◌, append_assoc}
use native.Mathlib.Omega.{arith}
use lib.ListN.{length, take, drop, length-append, take-append-drop}
use lib.Seq.{take-append-le, drop-append-le, length-take-le}
use Rattle.fields.specs.Patch.{patched}
use Rattle.fields.proofs.Patch.{roomy, length-patched}

-- l begins with the n bytes x, and r stands behind them
pub record Front (n : ℕ) (x r l : List ℕ) : Type 0 where
  pub is : l ≡ x ++ r
  pub long : length x ≡ n

-- the first n bytes of a list stand so
pub front : (n : ℕ) (d : List ℕ) → n ≤ length d → Front n (take n d) (drop n d) d
front n d h = record { is = sym (take-append-drop n d); long = length-take-le n d h }

-- and n bytes laid over them, which is what `patched` does from place 0
module _ (n : ℕ) (d : List ℕ) (h : n ≤ length d) where
  pub laid-front : (x : List ℕ) → length x ≡ n → patched d 0 x ≡ x ++ drop n d
  laid-front x k =
      let here : 0 + length x ≡ n = omega (arith, k) in
      let room : 0 + length x ≤ length d = omega (arith, here, h) in
      (roomy {d = d} {s = x} {l = patched d 0 x} {at = 0} refl room).is ∙ ap (λ (i : ℕ). x ++ drop i d) here

  pub over-front : (x : List ℕ) {l : List ℕ} → l ≡ patched d 0 x → length x ≡ n → Front n x (drop n d) l
  over-front x e k = record { is = e ∙ laid-front x k; long = k }

  pub front-over : {x l : List ℕ} → Front n x (drop n d) l → l ≡ patched d 0 x
  front-over {x} f = f.is ∙ sym (laid-front x f.long)

-- what is laid within the first n bytes, at a place and of bytes known by equations, leaves those behind them
pub within : {x r l l' t t' : List ℕ} {n k k' : ℕ} → Front n x r l → l' ≡ patched l k t → k ≡ k' → t ≡ t' → k' + length t' ≤ n → Front n (patched x k' t') r l'
within {x} {r} {l} {l'} {t' = t} {n = n} {k' = k} f e p q h =
    let here : k + length t ≤ length x = omega (arith, h, f.long) in
    let there : k + length t ≤ length (x ++ r) = simp length-append (omega (arith, here)) in
    let w = roomy {d = x} {s = t} {l = patched x k t} {at = k} refl here in
    let e' : l' ≡ patched (x ++ r) k t = e ∙ (λ i. patched (f.is i) (p i) (q i)) in
    record {
      is =
          (roomy e' there).is
          ∙ (λ i. take-append-le k x r (omega (arith, here)) i ++ t ++ drop-append-le (k + length t) x r here i)
          ∙ sym (append_assoc (take k x ++ t) (drop (k + length t) x) r)
          ∙ ap (λ (y : List ℕ). y ++ r) (sym w.is);
      long = length-patched x t k ∙ f.long;
    }
