-- The totals of a script counted are the figures of the operations that its calls made, up to the first that is refused.
use Prim.Native.Nat.{ℕ}
use mathlib.Core.Bool.{true}
use mathlib.Core.List.{List, [], ◌∷◌, ◌++◌, map, map-append, append-nil, append_assoc}
use mathlib.Core.Logic.{◌≢◌}
use mathlib.Core.Path.{◌≡◌, refl, sym, ap, ◌∙◌}
use borrow.Author.Tests.{eqb-true, eqb-false, ne_eqb}
use lib.Dec.{eqb}
use Rattle.common.proofs.TableLaws.{pick_case}
use Rattle.bench.specs.Calls.{Desk}
use Rattle.benchfile.specs.Row.{lawful}
use Rattle.benchfile.specs.declared.row.Row.{Row}
use Rattle.rewind.specs.History.{Deed, did, struck, nothing}
use Rattle.rewind.specs.Run.{Call, called, Met, made_at, deed_at, run, deeds_at}
use Rattle.tally.specs.Figure.{Made, figures_of}
use Rattle.tally.specs.Run.{Tallying, count_by, accepted_by, refused_by, call_tallied}
use Rattle.tally.specs.Share.{Counted}
use Rattle.walk.specs.Call.{Calling, call_of}
use Rattle.tallied.specs.History.{made_of, call_at, accepted_of, done_of}
use Rattle.tallied.proofs.Calls.{call-is, added, call-counts}

done_append : (a b : List (Deed Met)) → done_of (a ++ b) ≡ done_of a ++ done_of b
unfolding done_of
done_append [] b = refl
done_append (did o ∷ a) b = ap (λ (l : List Met). o ∷ l) (done_append a b)
done_append (struck ∷ a) b = done_append a b
done_append (nothing ∷ a) b = done_append a b

module _ (rom : List ℕ) where
  -- every call is accepted
  abbrev pub AllAccepted : Desk → List Call → Type 0
  AllAccepted d [] = Unit {0}
  AllAccepted d (c ∷ cs) = ((called rom c d).number ≡ 0) × AllAccepted (called rom c d).desk cs

  module _ (c : Call) where
    pub run-last : (d : Desk) (cs : List Call) → run rom d (cs ++ (c ∷ [])) ≡ (called rom c (run rom d cs)).desk
    unfolding run
    run-last d [] = refl
    run-last d (x ∷ cs) = run-last (called rom x d).desk cs

    pub all-last : (d : Desk) (cs : List Call) → AllAccepted d cs → (called rom c (run rom d cs)).number ≡ 0 → AllAccepted d (cs ++ (c ∷ []))
    unfolding run
    all-last d [] a z = (z, tt)
    all-last d (x ∷ cs) a z = (a.0, all-last (called rom x d).desk cs a.1 z)

    deeds-last : (d : Desk) (cs : List Call)
        → deeds_at rom d (cs ++ (c ∷ [])) ≡ deeds_at rom d cs ++ (deed_at c (run rom d cs) (called rom c (run rom d cs)).number ∷ [])
    unfolding run deeds_at
    deeds-last d [] = refl
    deeds-last d (x ∷ cs) = ap (λ (l : List (Deed Met)). deed_at x d (called rom x d).number ∷ l) (deeds-last (called rom x d).desk cs)

  pub accepted-more : (d : Desk) (cs rest : List Call) → AllAccepted d cs → accepted_of rom d (cs ++ rest) ≡ cs ++ accepted_of rom (run rom d cs) rest
  unfolding run accepted_of
  accepted-more d [] rest a = refl
  accepted-more d (c ∷ cs) rest a = rw a.0 (ap (λ (l : List Call). c ∷ l) (accepted-more (called rom c d).desk cs rest a.1))

  pub accepted-all : (d : Desk) (cs : List Call) → AllAccepted d cs → accepted_of rom d cs ≡ cs
  unfolding accepted_of
  accepted-all d cs a = ap (accepted_of rom d) (sym (append-nil cs)) ∙ accepted-more d cs [] a ∙ append-nil cs

  -- and none after one that is refused
  accepted-none : (d : Desk) (c : Call) (rest : List Call) → (called rom c d).number ≢ 0 → accepted_of rom d (c ∷ rest) ≡ []
  unfolding accepted_of
  accepted-none d c rest z = rw (ne_eqb (called rom c d).number 0 z)

module _ (rom : List ℕ) (d₀ : Desk) where
  -- the operations that calls made
  abbrev made : List Call → List Made
  made cs = map (made_of rom) (done_of (deeds_at rom d₀ cs))

  -- the calls listed so far, and a count that has made them up to the first that was refused
  pub record Counts (calls : List Call) (t : Tallying) : Type 0 where
    pub onward : t.number ≡ 0 → AllAccepted rom d₀ calls × (run rom d₀ calls ≡ t.desk)
    pub ended : t.number ≢ 0 → (rest : List Call) → accepted_of rom d₀ (calls ++ rest) ≡ accepted_of rom d₀ calls
    pub totals : t.totals ≡ figures_of (made (accepted_of rom d₀ calls))

  -- after a refusal further calls change nothing
  pub counts-kept : (calls more : List Call) (t : Tallying) → t.number ≢ 0 → Counts calls t → Counts (calls ++ more) t
  counts-kept calls more t z C = record {
    onward = λ e. absurd (z e);
    ended = λ _ rest. ap (accepted_of rom d₀) (append_assoc calls more rest) ∙ C.ended z (more ++ rest) ∙ sym (C.ended z more);
    totals = C.totals ∙ sym (ap (λ (cs : List Call). figures_of (made cs)) (C.ended z more));
  }

  -- a refused call is none of the accepted ones
  pub refused-same : (calls : List Call) (c : Call) → AllAccepted rom d₀ calls → (called rom c (run rom d₀ calls)).number ≢ 0
      → (rest : List Call) → accepted_of rom d₀ (calls ++ (c ∷ rest)) ≡ calls
  refused-same calls c all z rest =
      accepted-more rom d₀ calls (c ∷ rest) all ∙ ap (λ (l : List Call). calls ++ l) (accepted-none rom (run rom d₀ calls) c rest z) ∙ append-nil calls

  -- what an accepted call adds
  made-last : (calls : List Call) (says : Row) (i : ℕ) (d : Desk) → run rom d₀ calls ≡ d → (called rom (call_at says i) d).number ≡ 0
      → made (calls ++ (call_at says i ∷ [])) ≡ made calls ++ added rom says i d
  made-last calls says i d e z =
      let c = call_at says i in
      ap (λ (ds : List (Deed Met)). map (made_of rom) (done_of ds))
      (deeds-last rom c d₀ calls ∙ ap (λ (x : Desk). deeds_at rom d₀ calls ++ (deed_at c x (called rom c x).number ∷ [])) e
      ∙ ap (λ (n : ℕ). deeds_at rom d₀ calls ++ (deed_at c d n ∷ [])) z)
      ∙ ap (map (made_of rom)) (done_append (deeds_at rom d₀ calls) (made_at c d ∷ []))
      ∙ map-append (made_of rom) (done_of (deeds_at rom d₀ calls)) (done_of (made_at c d ∷ []))

  module _ (row : ℕ) (says : Row) (good : lawful says ≡ true) (i : ℕ) (calls : List Call) (t : Tallying) (zero : t.number ≡ 0) (C : Counts calls t) where
    abbrev o : Calling
    o = call_of rom i says t.desk

    abbrev c : Call
    c = call_at says i

    abbrev n : Counted
    n = count_by says t.desk o t.totals

    so_far : accepted_of rom d₀ calls ≡ calls
    so_far = accepted-all rom d₀ calls (C.onward zero).0

    pub number_is : (called rom c (run rom d₀ calls)).number ≡ o.answer.number
    number_is = ap (λ (d : Desk). (called rom c d).number) (C.onward zero).1 ∙ sym (call-is rom i t.desk says good).number

    counts-accepted : o.answer.number ≡ 0 → n.number ≢ 13 → Counts (calls ++ (c ∷ [])) (accepted_by t o row n)
    counts-accepted z h =
        let K = call-is rom i t.desk says good in
        let all = (C.onward zero).0 in
        let here = (C.onward zero).1 in
        let total : t.totals ≡ figures_of (made calls) = C.totals ∙ ap (λ (cs : List Call). figures_of (made cs)) so_far in
        let q : n ≡ count_by says t.desk o (figures_of (made calls)) = ap (count_by says t.desk o) total in
        let counts = q ∙ call-counts rom i t.desk (made calls) says z (λ e. h (ap (λ (x : Counted). x.number) q ∙ e)) in
        let all' : AllAccepted rom d₀ (calls ++ (c ∷ [])) = all-last rom c d₀ calls all (number_is ∙ z) in
        record {
          onward = λ _. (all', run-last rom c d₀ calls ∙ ap (λ (d : Desk). (called rom c d).desk) here ∙ sym K.desk);
          ended = λ e. absurd (e (ap (λ (x : Counted). x.number) counts));
          totals =
              ap (λ (x : Counted). x.totals) counts
              ∙ ap figures_of (sym (made-last calls says i t.desk here (sym K.number ∙ z)))
              ∙ sym (ap (λ (cs : List Call). figures_of (made cs)) (accepted-all rom d₀ (calls ++ (c ∷ [])) all'));
        }

    counts-refused : o.answer.number ≢ 0 → Counts (calls ++ (c ∷ [])) (refused_by t o)
    counts-refused z =
        let all = (C.onward zero).0 in
        let stops = refused-same calls c all (λ e. z (sym number_is ∙ e)) in
        record {
          onward = λ e. absurd (z e);
          ended = λ _ rest. ap (accepted_of rom d₀) (append_assoc calls (c ∷ []) rest) ∙ stops rest ∙ sym (stops []);
          totals = C.totals ∙ ap (λ (cs : List Call). figures_of (made cs)) (so_far ∙ sym (stops []));
        }

    pub counts_step : (call_tallied rom row says i t).number ≢ 13 → Counts (calls ++ (c ∷ [])) (call_tallied rom row says i t)
    unfolding call_tallied
    counts_step h =
        pick_case (λ (u : Tallying). u.number ≢ 13 → Counts (calls ++ (c ∷ [])) u) (eqb o.answer.number 0) {x = accepted_by t o row n} {y = refused_by t o}
        (λ e. counts-accepted (eqb-true o.answer.number 0 e)) (λ e _. counts-refused (eqb-false o.answer.number 0 e)) h
