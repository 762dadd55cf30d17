-- A script counted, call by call: what holds before the first call and is kept by each holds after the last.
use Prim.Native.Nat.{ℕ, zero, suc, ◌≤◌, ◌<◌}
use mathlib.Core.List.{List}
use mathlib.Core.Logic.{◌≢◌}
use mathlib.Core.Path.{◌≡◌}
use native.Mathlib.Omega.{arith}
use borrow.Author.Tests.{eqb-true, eqb-false}
use lib.Dec.{eqb}
use Rattle.common.proofs.TableLaws.{pick_case}
use Rattle.benchfile.specs.Row.{row_at}
use Rattle.tally.specs.Run.{Tallying, call_tallied, step_tallied, calls_tallied, limit_of, begun, row_tallied, rows_tallied}

-- after r rows and i calls of the next
pub record Kept (rom script limits : List ℕ) (n : ℕ) (P : ℕ → ℕ → Tallying → Type 0) : Type 0 where
  -- a call that comes after accepted ones
  pub step : (r i : ℕ) (t : Tallying) → r < n → i < limit_of limits r (row_at script r) → t.number ≡ 0 → P r i t → P r (suc i) (call_tallied rom r (row_at script r) i t)
  -- one that is not made, after a refused one
  pub stay : (r i : ℕ) (t : Tallying) → t.number ≢ 0 → P r i t → P r (suc i) t
  -- a row begins, and a row is over
  pub begin : (r : ℕ) (t : Tallying) → t.number ≡ 0 → P r 0 t → P r 0 (begun r t)
  pub next : (r : ℕ) (t : Tallying) → r < n → P r (limit_of limits r (row_at script r)) t → P (suc r) 0 t

module _ (rom script limits : List ℕ) (n : ℕ) (P : ℕ → ℕ → Tallying → Type 0) (K : Kept rom script limits n P) where
  module _ (r : ℕ) (h : r < n) (t : Tallying) (p : P r 0 t) where
    calls-keep : (i : ℕ) → i ≤ limit_of limits r (row_at script r) → P r i (calls_tallied rom r (row_at script r) i t)
    unfolding calls_tallied step_tallied
    calls-keep zero k = p
    calls-keep (suc i) k =
        let u = calls_tallied rom r (row_at script r) i t in
        let q = calls-keep i (omega arith) in
        pick_case (P r (suc i)) (eqb u.number 0) (λ e. K.step r i u h (omega arith) (eqb-true u.number 0 e) q)
        (λ e. K.stay r i u (eqb-false u.number 0 e) q)

    stays : t.number ≢ 0 → (i : ℕ) → P r i t
    stays z zero = p
    stays z (suc i) = K.stay r i t z (stays z i)

  pub rows-keep : (t : Tallying) → P 0 0 t → (r : ℕ) → r ≤ n → P r 0 (rows_tallied rom script limits r t)
  unfolding rows_tallied row_tallied
  rows-keep t p zero k = p
  rows-keep t p (suc r) k =
      let u = rows_tallied rom script limits r t in
      let q = rows-keep t p r (omega arith) in
      let limit = limit_of limits r (row_at script r) in
      pick_case (P (suc r) 0) (eqb u.number 0)
      (λ e. K.next r _ (omega arith) (calls-keep r (omega arith) (begun r u) (K.begin r u (eqb-true u.number 0 e) q) limit (omega arith)))
      (λ e. K.next r u (omega arith) (stays r (omega arith) u q (eqb-false u.number 0 e) limit))
