-- Plain cycles in a row: they add up, and those that are all held are as many as are held.
use Rattle.std.proofs.Common.{◌≡◌, ℕ, zero, suc, ◌+◌, ◌<◌, Bool, true, List, ap, ◌∙◌, add-zero, add-suc, arith}
use mir.Val.{bool_byte}
use Rattle.machine.specs.Plain.{Ran, next, also, plain, held_at}

module _ (rom : List ℕ) where
  -- j cycles and k more are j + k
  pub plain-add : (j k : ℕ) (s : Ran) → plain rom (j + k) s ≡ plain rom k (plain rom j s)
  unfolding plain
  plain-add j zero s = ap (λ (n : ℕ). plain rom n s) (add-zero j)
  plain-add j (suc k) s = ap (λ (n : ℕ). plain rom n s) (add-suc j k) ∙ ap (λ (r : Ran). also r (next rom r)) (plain-add j k s)

  pub all_held : (s : Ran) (n : ℕ) → ((i : ℕ) → i < n → held_at rom i s ≡ true) → (plain rom n s).held ≡ s.held + n
  unfolding plain
  all_held s zero h = omega arith
  all_held s (suc n) h =
      let k = all_held s n (λ i l. h i (omega (arith, l))) in
      ap (λ (b : Bool). (plain rom n s).held + bool_byte b) (h n (omega arith)) ∙ omega (arith, k)
