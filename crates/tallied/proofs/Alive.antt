-- The counts of the rows say which operations survive: called in order, the first so many of each row are the survivors of the history.
use Prim.Native.Nat.{ℕ, suc, ◌+◌, ◌%◌, ◌^◌, ◌≤◌, ◌<◌}
use mathlib.Core.Bool.{Bool, true, false}
use mathlib.Core.List.{List, [], ◌∷◌, ◌++◌, map, map-append, reverse, reverse-cons, reverse-append, reverse-reverse, append_assoc, concat-ne-nil, tail-eq_of_cons-eq}
use mathlib.Core.Logic.{◌≢◌, inl, inr}
use mathlib.Core.Path.{◌≡◌, refl, sym, ap, subst, ◌∙◌}
use native.Mathlib.Decide.{dec_lt}
use native.Mathlib.Omega.{arith}
use borrow.Author.Tests.{eqb-true, eqb-false}
use lib.Dec.{eqb, T}
use lib.ListN.{length, get_or, set, length-set}
use lib.Seq.{get_or-set_same, get_or-set_other}
use Rattle.common.proofs.TableLaws.{pick_case}
use Rattle.common.specs.Pick.{pick}
use Rattle.bench.specs.Calls.{Desk}
use Rattle.benchfile.specs.Row.{row_at, lawful}
use Rattle.benchfile.specs.declared.row.Row.{Row}
use Rattle.benchfile.specs.declared.row.Row.TheVariants.{Cycles, Read, Write, Pad, Plug, Answer as Reply, Back, Broken}
use Rattle.rewind.specs.History.{Deed, rest, survive, survivors_from, survivors}
use Rattle.rewind.specs.Rules.{Op}
use Rattle.rewind.specs.Run.{Call, operation, called, made, deed, run, deeds}
use Rattle.tally.specs.Alive.{latest_of, Rows, joined, struck_at, noted}
use Rattle.tally.specs.Run.{Tallying, count_by, accepted_by, refused_by, call_tallied}
use Rattle.walk.specs.Call.{Calling, call_of}
use Rattle.tallied.specs.History.{call_at, first_calls, accepted_of}
use Rattle.tallied.proofs.Adds.{zeros}
use Rattle.tallied.proofs.Calls.{strikes, call-is}
use Rattle.tallied.proofs.Counted.{accepted-all, all-last, Counts, refused-same, number_is}
use Rattle.tallied.proofs.Flat.{Under, set-under, lowered, zero-stays, latest, flat, flat-set, flat-zero, Struck, flat-struck}

-- ---- the survivors as calls, in the order made

abbrev pub as_calls : List Op → List Call
as_calls s = map operation (reverse s)

joins : (o : Op) (s : List Op) → as_calls (o ∷ s) ≡ as_calls s ++ (operation o ∷ [])
joins o s = ap (map operation) (reverse-cons o s) ∙ map-append operation (reverse s) (o ∷ [])

-- two lists with a last element
front : (a b : List Call) (x y : Call) → a ++ (x ∷ []) ≡ b ++ (y ∷ []) → a ≡ b
front a b x y e =
    let back : x ∷ reverse a ≡ y ∷ reverse b = sym (reverse-append a (x ∷ [])) ∙ ap reverse e ∙ reverse-append b (y ∷ []) in
    sym (reverse-reverse a) ∙ ap reverse (tail-eq_of_cons-eq back) ∙ reverse-reverse b

strikes-last : (script : List ℕ) (s : List Op) (a b : List Call) → as_calls s ≡ a → Struck script a b → as_calls (rest s) ≡ b
unfolding rest
strikes-last script [] a b e (inl p) = sym p.1
strikes-last script [] a b e (inr (c, p)) = absurd (concat-ne-nil c b (sym (e ∙ p)))
strikes-last script (o ∷ s) a b e (inl p) = absurd (concat-ne-nil (operation o) (as_calls s) (sym (joins o s) ∙ e ∙ p.0))
strikes-last script (o ∷ s) a b e (inr (c, p)) = front (as_calls s) b (operation o) c (sym (joins o s) ∙ e ∙ p)

-- a call more
module _ (rom : List ℕ) (c : Call) where
  deeds-last : (d : Desk) (cs : List Call) → deeds rom d (cs ++ (c ∷ [])) ≡ deeds rom d cs ++ (deed c (called rom c (run rom d cs)).number ∷ [])
  unfolding run deeds
  deeds-last d [] = refl
  deeds-last d (x ∷ cs) = ap (λ (l : List (Deed Op)). deed x (called rom x d).number ∷ l) (deeds-last (called rom x d).desk cs)

survivors-last : (past : List Op) (ds : List (Deed Op)) (x : Deed Op) → survivors_from past (ds ++ (x ∷ [])) ≡ survive x (survivors_from past ds)
unfolding survivors_from
survivors-last past [] x = refl
survivors-last past (y ∷ ds) x = survivors-last (survive y past) ds x

module _ (rom script : List ℕ) (d₀ : Desk) (n : ℕ) where
  -- the survivors of the calls up to the first that is refused
  abbrev alive_of : List Call → List Op
  alive_of calls = survivors (deeds rom d₀ (accepted_of rom d₀ calls))

  -- after r rows and i calls of the next, calls being all those listed
  pub record Lives (r i : ℕ) (calls : List Call) (t : Tallying) : Type 0 where
    pub lives : as_calls (alive_of calls) ≡ flat script t.rows.alive (suc r)
    -- of the row itself: all its calls so far, or none in a row of back steps
    pub here : t.number ≡ 0 → get_or t.rows.alive r 0 ≡ pick (strikes (row_at script r)) 0 i
    pub first : i ≡ 0 → get_or t.rows.alive r 0 ≡ 0
    -- none of the rows to come, nor of those behind the top
    pub above : (j : ℕ) → r < j → get_or t.rows.alive j 0 ≡ 0
    pub quiet : (j : ℕ) → t.rows.top < j → get_or t.rows.alive j 0 ≡ 0
    pub low : t.rows.top ≤ r
    pub long : n ≤ length t.rows.alive
    pub few : Under 65535 t.rows.alive

  -- a row of operations, and one of back steps
  joins-row : (says : Row) (i : ℕ) (s : List Op) → strikes says ≡ false → as_calls (survive (made (call_at says i)) s) ≡ as_calls s ++ (call_at says i ∷ [])
  unfolding survive
  joins-row (Cycles count event due timer) i s e = joins _ s
  joins-row (Read bank addr) i s e = joins _ s
  joins-row (Write bank addr byte) i s e = joins _ s
  joins-row (Pad port word) i s e = joins _ s
  joins-row (Plug port on) i s e = joins _ s
  joins-row (Reply addr byte) i s e = joins _ s
  joins-row (Back count) i s e = absurd (subst T e tt)
  joins-row Broken i s e = absurd (subst T e tt)

  strikes-row : (says : Row) (i : ℕ) (s : List Op) → strikes says ≡ true → survive (made (call_at says i)) s ≡ rest s
  unfolding survive
  strikes-row (Cycles count event due timer) i s e = absurd (subst T (sym e) tt)
  strikes-row (Read bank addr) i s e = absurd (subst T (sym e) tt)
  strikes-row (Write bank addr byte) i s e = absurd (subst T (sym e) tt)
  strikes-row (Pad port word) i s e = absurd (subst T (sym e) tt)
  strikes-row (Plug port on) i s e = absurd (subst T (sym e) tt)
  strikes-row (Reply addr byte) i s e = absurd (subst T (sym e) tt)
  strikes-row (Back count) i s e = refl
  strikes-row Broken i s e = refl

  module _ (r i : ℕ) (h : r < n) (small : i < 65535) (calls : List Call) (t : Tallying) (zero : t.number ≡ 0) (C : Counts rom d₀ calls t)
      (W : Lives r i calls t) (good : lawful (row_at script r) ≡ true) where
    abbrev says : Row
    says = row_at script r

    abbrev c : Call
    c = call_at says i

    abbrev o : Calling
    o = call_of rom i says t.desk

    abbrev alive : List ℕ
    alive = t.rows.alive

    -- the count with these rows
    abbrev with : Rows → ℕ → List ℕ → Tallying
    with R number totals = record { desk = o.desk; number = number; row = t.row; rows = R; totals = totals }

    number_at : (called rom c (run rom d₀ calls)).number ≡ o.answer.number
    number_at = number_is rom d₀ r says good i calls t zero C

    alive-last : o.answer.number ≡ 0 → alive_of (calls ++ (c ∷ [])) ≡ survive (made c) (alive_of calls)
    unfolding survivors
    alive-last z =
        let all = (C.onward zero).0 in
        let q = number_at ∙ z in
        ap (λ (cs : List Call). survivors (deeds rom d₀ cs)) (accepted-all rom d₀ (calls ++ (c ∷ [])) (all-last rom c d₀ calls all q))
        ∙ ap survivors (deeds-last rom c d₀ calls) ∙ survivors-last [] (deeds rom d₀ calls) (deed c (called rom c (run rom d₀ calls)).number)
        ∙ ap (λ (k : ℕ). survive (deed c k) (survivors (deeds rom d₀ calls))) q
        ∙ ap (λ (cs : List Call). survive (made c) (survivors (deeds rom d₀ cs))) (sym (accepted-all rom d₀ calls all))

    op-lives : strikes says ≡ false → o.answer.number ≡ 0 → (number : ℕ) (totals : List ℕ) → Lives r (suc i) (calls ++ (c ∷ [])) (with (joined r t.rows) number totals)
    unfolding flat first_calls
    op-lives s z number totals =
        let was : get_or alive r 0 ≡ i = W.here zero ∙ ap (λ (b : Bool). pick b 0 i) s in
        let x = (get_or alive r 0 + 1) % 2 ^ 16 in
        let now : get_or (set alive r x) r 0 ≡ suc i = get_or-set_same alive r x 0 (omega (arith, W.long)) ∙ omega (arith, was) in
        let others : (j : ℕ) → r < j → get_or (set alive r x) j 0 ≡ 0 = λ j a. get_or-set_other alive r j x 0 (λ q. omega arith) ∙ W.above j a in
        record {
          lives =
              ap as_calls (alive-last z) ∙ joins-row says i (alive_of calls) s ∙ ap (λ (cs : List Call). cs ++ (c ∷ [])) W.lives
              ∙ ap (λ (k : ℕ). flat script alive r ++ first_calls says k ++ (c ∷ [])) was
              ∙ append_assoc (flat script alive r) (first_calls says i) (c ∷ [])
              ∙ (λ j. sym (flat-set script alive r x r (omega arith)) j ++ first_calls says (sym now j));
          here = λ _. now ∙ sym (ap (λ (b : Bool). pick b 0 (suc i)) s);
          first = λ e. absurd (omega arith);
          above = others;
          quiet = others;
          low = omega arith;
          long = rw (length-set alive r x) W.long;
          few = set-under 65535 alive r x (omega arith) W.few;
        }

    back-lives : strikes says ≡ true → o.answer.number ≡ 0 → (number : ℕ) (totals : List ℕ)
        → Lives r (suc i) (calls ++ (c ∷ [])) (with (struck_at (latest_of alive t.rows.top) t.rows) number totals)
    back-lives s z number totals =
        let k = latest_of alive t.rows.top in
        let L = latest alive t.rows.top in
        let others : (j : ℕ) → k < j → get_or alive j 0 ≡ 0 = λ j a. elim (dec_lt t.rows.top j) [
          | yes q ↦ W.quiet j q
          | no q ↦ L.above j a (omega arith)
        ] in
        record {
          lives =
              ap as_calls (alive-last z ∙ strikes-row says i (alive_of calls) s)
              ∙ strikes-last script (alive_of calls) (flat script alive (suc r)) (flat script (lowered alive k) (suc r)) W.lives
              (flat-struck script alive k (suc r) (omega (arith, L.most, W.low)) (omega (arith, W.long)) others L.none);
          here = λ _. zero-stays alive k r (W.here zero ∙ ap (λ (b : Bool). pick b 0 i) s) ∙ sym (ap (λ (b : Bool). pick b 0 (suc i)) s);
          first = λ e. absurd (omega arith);
          above = λ j a. zero-stays alive k j (W.above j a);
          quiet = λ j a. zero-stays alive k j (others j a);
          low = omega (arith, L.most, W.low);
          long = rw (length-set alive k _) W.long;
          few = set-under 65535 alive k _ (omega (arith, W.few k)) W.few;
        }

    accepted-lives : o.answer.number ≡ 0 → (b : Bool) → strikes says ≡ b → (number : ℕ) (totals : List ℕ)
        → Lives r (suc i) (calls ++ (c ∷ [])) (with (noted r b t.rows) number totals)
    unfolding noted
    accepted-lives z true s = back-lives s z
    accepted-lives z false s = op-lives s z

    refused-lives : o.answer.number ≢ 0 → Lives r (suc i) (calls ++ (c ∷ [])) (refused_by t o)
    refused-lives z =
        let all = (C.onward zero).0 in
        let same = refused-same rom d₀ calls c all (λ e. z (sym number_at ∙ e)) [] ∙ sym (accepted-all rom d₀ calls all) in
        record {
          lives = ap (λ (cs : List Call). as_calls (survivors (deeds rom d₀ cs))) same ∙ W.lives;
          here = λ e. absurd (z e);
          first = λ e. absurd (omega arith);
          above = W.above;
          quiet = W.quiet;
          low = W.low;
          long = W.long;
          few = W.few;
        }

    pub lives-step : Lives r (suc i) (calls ++ (c ∷ [])) (call_tallied rom r says i t)
    unfolding call_tallied
    lives-step =
        let m = count_by says t.desk o t.totals in
        pick_case (Lives r (suc i) (calls ++ (c ∷ []))) (eqb o.answer.number 0) {x = accepted_by t o r m} {y = refused_by t o}
        (λ e. subst (λ (b : Bool). Lives r (suc i) (calls ++ (c ∷ [])) (with (noted r b t.rows) m.number m.totals)) (sym (call-is rom i t.desk says good).back)
        (accepted-lives (eqb-true o.answer.number 0 e) (strikes says) refl m.number m.totals))
        (λ e. refused-lives (eqb-false o.answer.number 0 e))

  pub lives-stay : (r i : ℕ) (calls more : List Call) (t : Tallying) → t.number ≢ 0 → Counts rom d₀ calls t → Lives r i calls t → Lives r (suc i) (calls ++ more) t
  lives-stay r i calls more t z C W = record {
    lives = ap (λ (cs : List Call). as_calls (survivors (deeds rom d₀ cs))) (C.ended z more) ∙ W.lives;
    here = λ e. absurd (z e);
    first = λ e. absurd (omega arith);
    above = W.above;
    quiet = W.quiet;
    low = W.low;
    long = W.long;
    few = W.few;
  }

  pub lives-next : (r i : ℕ) (calls : List Call) (t : Tallying) → Lives r i calls t → Lives (suc r) 0 calls t
  lives-next r i calls t W =
      let none = W.above (suc r) (omega arith) in
      record {
        lives = W.lives ∙ sym (flat-zero script t.rows.alive (suc r) none);
        here = λ _. none ∙ zeros (strikes (row_at script (suc r)));
        first = λ _. none;
        above = λ j a. W.above j (omega arith);
        quiet = W.quiet;
        low = omega (arith, W.low);
        long = W.long;
        few = W.few;
      }
