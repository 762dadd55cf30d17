-- The calls of a start, joined into its definition.
use Prim.Native.Nat.{ℕ}
use mathlib.Core.List.{List}
use mathlib.Core.Path.{◌≡◌, sym}
use Rattle.bench.specs.Calls.{FreshOut, fresh_call}
use Rattle.common.specs.Refusal.{refusal_number}
use Rattle.common.specs.declared.refusal.Refusal.{Refusal}
use Rattle.fields.specs.Little.{field}
use Rattle.benchfile.specs.File.{body_of, file_check}
use Rattle.ring.proofs.Also.{refuses}
use Rattle.start.specs.{Fill.filled, declared.Span.Span}
use Rattle.start.specs.Start.{Starting, started, span_of, halted, made_for, refusal_of, start_run}

module _ (f low high : List ℕ) where
  pub start-broken : (x : Refusal) → refusal_number x ≡ file_check f → started (halted (refusal_number x)) low high ≡ start_run f low high
  unfolding start_run refusal_of
  start-broken x r = let z = refuses x in cc

  module _ (r : 0 ≡ file_check f) {fill low' high' settings : List ℕ} {bits : ℕ} {made : FreshOut} (g : fill ≡ body_of f 1) (l : low' ≡ filled low fill)
      (h : high' ≡ filled high fill) (p : settings ≡ body_of f 0) (q : bits ≡ field 2 settings 0) (m : made ≡ fresh_call low' high' 65536 bits) where
    made-is : made ≡ made_for f low high
    unfolding made_for
    made-is = cc

    pub start-refused : (x : Refusal) → made.number ≡ refusal_number x → started (halted (refusal_number x)) low' high' ≡ start_run f low high
    unfolding start_run refusal_of
    start-refused x e = let z = refuses x in let a = made-is in rw (sym r) cc

    pub start-goes : {rom script : Span} → made.number ≡ 0 → rom ≡ span_of f 2 → script ≡ span_of f 3
        → ◌≡◌ {A = Starting} (started (record { number = 0; bench = made.bench; rom = rom; script = script }) low' high') (start_run f low high)
    unfolding start_run refusal_of
    start-goes y i j = let a = made-is in rw (sym r) cc
