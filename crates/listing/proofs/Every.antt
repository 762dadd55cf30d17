-- Where every byte of work RAM is looked at.
use Rattle.std.proofs.Common.{◌≡◌, ℕ, Bool, true, eqb, Option, Some, None, is_some, not, refl}
use Rattle.touch.specs.Reach.{spot_number}

pub every : (o : Option ℕ) {b : Bool} → is_some o ≡ not b → b ≡ true → eqb (spot_number o) 131072 ≡ true
every (Some n) e t = cc
every None e t = refl
