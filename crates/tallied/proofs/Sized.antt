-- A script counted leaves what its calls leave, the refused one too: so banks and record keep their lengths.
use Prim.Native.Nat.{ℕ, ◌<◌}
use mathlib.Core.Bool.{true}
use mathlib.Core.List.{List, [], ◌∷◌, ◌++◌}
use mathlib.Core.Path.{◌≡◌, sym, ap, ◌∙◌}
use native.Mathlib.Omega.{arith}
use lib.Dec.{eqb}
use Rattle.common.proofs.TableLaws.{pick_elim}
use Rattle.common.specs.{All.AllOf, Width.Bytes}
use Rattle.bench.specs.Calls.{Desk}
use Rattle.benchfile.specs.Row.{row_at, lawful}
use Rattle.rewind.specs.Run.{Call, TypedCall, called, run}
use Rattle.tally.specs.Run.{Tallying, count_by, accepted_by, refused_by, call_tallied, rows_tallied}
use Rattle.walk.specs.Call.{call_of}
use Rattle.tallied.specs.History.{call_at}
use Rattle.tallied.proofs.{Calls.call-is, Counted.run-last, Typed.call-typed, Typed.all_append, Walk.rows-keep}

module _ (rom script limits : List ℕ) (d₀ : Desk) (n : ℕ) (good : (r : ℕ) → r < n → lawful (row_at script r) ≡ true) (bytes : Bytes script) where
  -- some calls with arguments of their types lead here
  abbrev pub Led : Desk → Type 0
  Led d = (cs : List Call) × (AllOf TypedCall cs × (run rom d₀ cs ≡ d))

  led_step : (r i : ℕ) (t : Tallying) → r < n → Led t.desk → Led (call_tallied rom r (row_at script r) i t).desk
  unfolding call_tallied
  led_step r i t h (cs, p) =
      let says = row_at script r in
      let c = call_at says i in
      let o = call_of rom i says t.desk in
      let here : Led o.desk = (
        cs ++ (c ∷ []),
        (
          all_append cs (c ∷ []) p.0 (call-typed script bytes r i, tt),
          run-last rom c d₀ cs ∙ ap (λ (d : Desk). (called rom c d).desk) p.1 ∙ sym (call-is rom i t.desk says (good r h)).desk,
        ),
      ) in
      pick_elim (λ (u : Tallying). Led u.desk) (eqb o.answer.number 0) {x = accepted_by t o r (count_by says t.desk o t.totals)} {y = refused_by t o} here here

  pub run_led : (t : Tallying) → t.desk ≡ d₀ → Led (rows_tallied rom script limits n t).desk
  unfolding run
  run_led t e =
      rows-keep rom script limits n (λ r i t. Led t.desk)
      (record {
        step = λ r i t h k z L. led_step r i t h L;
        stay = λ r i t z L. L;
        begin = λ r t z L. L;
        next = λ r t h L. L;
      }) t ([], (tt, sym e)) n (omega arith)
