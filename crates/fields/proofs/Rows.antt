-- Rows of one width, written one after the other by a loop.
use Prim.Native.Nat.{ℕ, zero, suc, ◌+◌, ◌*◌, ◌≤◌, ◌<◌}
use mathlib.Core.List.{List}
use mathlib.Core.Path.{◌≡◌, refl, sym, ap, ◌∙◌}
use native.Mathlib.Nat.{zero-mul, mul_comm, mul-suc, mul-le-mul_left}
use native.Mathlib.Numerals.{add-one}
use native.Mathlib.Omega.{arith}
use lib.ListN.{length, length-append}
use Rattle.fields.specs.{Patch.patched, Table.times}
use Rattle.fields.proofs.Patch.{Wrote, nothing, on, patch_is, length-patched}

-- rows of one width
length-times : (w n : ℕ) (f : ℕ → List ℕ) → ((i : ℕ) → length (f i) ≡ w) → length (times n f) ≡ w * n
length-times w zero f h = sym (mul_comm w 0 ∙ zero-mul w)
length-times w (suc n) f h = length-append (times n f) (f n) ∙ ap (λ (x : ℕ). x + length (f n)) (length-times w n f h) ∙ ap (λ (x : ℕ). w * n + x) (h n) ∙ sym (mul-suc w n)

-- a loop has laid i of n rows from place at on, and the list keeps its length
abbrev pub Laying : (d : List ℕ) (at n : ℕ) (f : ℕ → List ℕ) (l : List ℕ) (i : ℕ) → Type 0
Laying d at n f l i = (i ≤ n) × (Wrote d at (times i f) l × (length l ≡ length d))

module _ (d : List ℕ) (at n : ℕ) (f : ℕ → List ℕ) where
  -- none yet
  pub begun : Laying d at n f d 0
  begun = (omega arith, (nothing d at, refl))

  module _ (w : ℕ) (hw : (k : ℕ) → length (f k) ≡ w) (room : at + w * n ≤ length d) where
    -- one more, right behind those that are laid
    pub turned : {l l' s : List ℕ} {m : ℕ} (i : ℕ) → Laying d at n f l i → i < n → l' ≡ patched l m s → s ≡ f i → m ≡ at + w * i → Laying d at n f l' (i + 1)
    turned {l} {s = s} {m = m} i v h e q p =
        let k : length (times i f) ≡ w * i = length-times w i f hw in
        let here : w * suc i ≤ w * n = mul-le-mul_left w h in
        let fits : m + length (f i) ≤ length d = omega (arith, hw i, p, mul-suc w i, here, room) in (
          omega (arith, h),
          (
            rw add-one (on v.1.0 e q (omega (arith, p, k)) fits),
            ap length e ∙ length-patched l s m ∙ v.1.1,
          ),
        )

    -- all of them
    pub ended : {l : List ℕ} (i : ℕ) → Laying d at n f l i → n ≤ i → l ≡ patched d at (times n f)
    ended i v h =
        let all : i ≡ n = omega (arith, v.0, h) in
        patch_is (rw all at v.1.0) (omega (arith, length-times w n f hw, room))
