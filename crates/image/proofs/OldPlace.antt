-- The three bytes of an old byte's place.
use Prim.Native.Nat.{ℕ, ◌+◌, ◌/◌, ◌%◌, ◌^◌, ◌<◌}
use mathlib.Core.Bool.{Bool, true, false}
use mathlib.Core.List.{[], ◌∷◌}
use mathlib.Core.Path.{◌≡◌}
use native.Mathlib.Omega.{arith}
use mir.Val.{bool_byte}
use Rattle.common.specs.Pick.{pick}
use Rattle.fields.specs.Little.{le}

-- a place is the address and, above it, the bank
pub place-bytes : (high : Bool) (addr : ℕ) → addr < 2 ^ 16 → le 3 (pick high 65536 0 + addr) ≡ addr % 256 ∷ addr / 256 ∷ bool_byte high ∷ []
place-bytes true a h =
    let u : a / 256 < 256 = omega arith in
    let d : (65536 + a) / 256 ≡ 256 + a / 256 = omega arith in
    let p : (65536 + a) % 256 ≡ a % 256 = omega arith in
    let q : (65536 + a) / 256 % 256 ≡ a / 256 = rw d (omega arith) in
    let g : (256 + a / 256) / 256 ≡ 1 = omega arith in
    let r : (65536 + a) / 256 / 256 % 256 ≡ 1 = rw (d, g) in
    λ i. p i ∷ q i ∷ r i ∷ []
place-bytes false a h =
    let u : a / 256 < 256 = omega arith in
    let e : 0 + a ≡ a = omega arith in
    let q : (0 + a) / 256 % 256 ≡ a / 256 = rw e (omega arith) in
    let g : a / 256 / 256 ≡ 0 = omega arith in
    let r : (0 + a) / 256 / 256 % 256 ≡ 0 = rw (e, g) in
    λ i. e i % 256 ∷ q i ∷ r i ∷ []
