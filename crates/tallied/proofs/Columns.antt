-- Both columns of a script: the first run counts all accepted operations, the second those that survive.
use Prim.Native.Nat.{ℕ, suc, ◌/◌, ◌≤◌, ◌<◌}
use mathlib.Core.Bool.{Bool, true, false}
use mathlib.Core.List.{List, [], ◌∷◌, ◌++◌, map, reverse, append-nil, append_assoc, nil≢cons, head-eq_of_cons-eq, tail-eq_of_cons-eq}
use mathlib.Core.Path.{◌≡◌, refl, sym, ap, subst, ◌∙◌}
use native.Mathlib.Omega.{arith}
use borrow.Author.Tests.{eqb-true}
use lib.Dec.{eqb, T}
use lib.ListN.{length, replicate, length-replicate}
use Rattle.common.proofs.TableLaws.{pick_case}
use Rattle.common.specs.{Width.Bytes}
use Rattle.bench.specs.Calls.{Desk, fresh_call}
use Rattle.benchfile.proofs.{Rows.script as rows-formed, Scripts.row_lawful}
use Rattle.benchfile.specs.File.{script_formed}
use Rattle.benchfile.specs.Row.{row_at, lawful}
use Rattle.rewind.proofs.Demand.{demand3}
use Rattle.rewind.specs.History.{Deed, did, struck, nothing, survivors, survivors_from}
use Rattle.rewind.specs.Promise.{Lent, fresh_desk, on_record}
use Rattle.rewind.specs.Rules.{Op}
use Rattle.rewind.specs.Run.{Call, operation, called, Met, deed_at, run, deeds, deeds_at}
use Rattle.tally.specs.Figure.{over, figures_of}
use Rattle.tally.specs.File.{first}
use Rattle.tally.specs.Run.{Tallying, call_tallied, limit_of, rows_tallied, script_tallied}
use Rattle.tallied.specs.History.{made_of, call_at, first_calls, calls_of, accepted_of, done_of, all_of, alive_of}
use Rattle.tallied.proofs.Adds.{zeros}
use Rattle.tallied.proofs.Alive.{as_calls, Lives, lives-step, lives-stay, lives-next}
use Rattle.tallied.proofs.Calls.{strikes}
use Rattle.tallied.proofs.Counted.{AllAccepted, accepted-all, Counts, counts-kept, counts_step}
use Rattle.tallied.proofs.Flat.{Under, flat, flat-zero, flat-calls}
use Rattle.tallied.proofs.Never.{Never, never-held, never_yet, never-high}
use Rattle.tallied.proofs.Typed.{all-zero, calls-small, typed-calls}
use Rattle.tallied.proofs.Walk.{Kept, rows-keep}

-- ---- one run

module _ (rom script limits : List ℕ) (d₀ : Desk) (n : ℕ) (good : (r : ℕ) → r < n → lawful (row_at script r) ≡ true)
    (small : (r : ℕ) → r < n → limit_of limits r (row_at script r) ≤ 65535) (few : n ≤ 8192) where
  -- the calls listed after r rows and i calls of the next
  abbrev listed : ℕ → ℕ → List Call
  listed r i = calls_of script limits r ++ first_calls (row_at script r) i

  one_more_lem : (r i : ℕ) → listed r i ++ (call_at (row_at script r) i ∷ []) ≡ listed r (suc i)
  unfolding first_calls
  one_more_lem r i = append_assoc (calls_of script limits r) (first_calls (row_at script r) i) (call_at (row_at script r) i ∷ [])

  row-over : (r : ℕ) → listed r (limit_of limits r (row_at script r)) ≡ listed (suc r) 0
  unfolding calls_of first_calls
  row-over r = sym (append-nil (calls_of script limits (suc r)))

  counts-held : Kept rom script limits n (λ r i t. Never r i t × Counts rom d₀ (listed r i) t)
  counts-held =
      let K = never-held rom script limits n small few in
      record {
        step = λ r i t h k z P.
            let N = K.step r i t h k z P.0 in (
              N,
              subst (λ (cs : List Call). Counts rom d₀ cs (call_tallied rom r (row_at script r) i t)) (one_more_lem r i)
                  (counts_step rom d₀ r (row_at script r) (good r h) i (listed r i) t z P.1 N.never),
            );
        stay = λ r i t z P. (K.stay r i t z P.0, subst (λ (cs : List Call). Counts rom d₀ cs t) (one_more_lem r i) (counts-kept rom d₀ (listed r i) _ t z P.1));
        begin = λ r t z P. (K.begin r t z P.0, record { onward = λ _. P.1.onward z; ended = λ e. absurd (e refl); totals = P.1.totals });
        next = λ r t h P. (K.next r t h P.0, subst (λ (cs : List Call). Counts rom d₀ cs t) (row-over r) P.1);
      }

  -- no total counted yet
  nothing_yet : (alive : List ℕ) → let t = first d₀ alive (replicate 29 0) in Never 0 0 t × Counts rom d₀ (listed 0 0) t
  unfolding calls_of first_calls accepted_of run deeds_at done_of figures_of over
  nothing_yet alive = (never_yet d₀ alive, record { onward = λ _. (tt, refl); ended = λ e. absurd (e refl); totals = refl })

  pub run-counts : (alive : List ℕ) → (rows_tallied rom script limits n (first d₀ alive (replicate 29 0))).totals ≡ all_of rom d₀ (calls_of script limits n)
  unfolding all_of first_calls
  run-counts alive =
      let P = rows-keep rom script limits n _ counts-held (first d₀ alive (replicate 29 0)) (nothing_yet alive) n (omega arith) in
      P.1.totals ∙ ap (all_of rom d₀) (append-nil (calls_of script limits n))

  both-held : Kept rom script limits n (λ r i t. (Never r i t × Counts rom d₀ (listed r i) t) × Lives rom script d₀ n r i (listed r i) t)
  both-held =
      let K = counts-held in
      record {
        step = λ r i t h k z P. (
          K.step r i t h k z P.0,
          subst (λ (cs : List Call). Lives rom script d₀ n r (suc i) cs (call_tallied rom r (row_at script r) i t)) (one_more_lem r i)
              (lives-step rom script d₀ n r i h (omega (arith, small r h)) (listed r i) t z P.0.1 P.1 (good r h)),
        );
        stay = λ r i t z P. (
          K.stay r i t z P.0,
          subst (λ (cs : List Call). Lives rom script d₀ n r (suc i) cs t) (one_more_lem r i) (lives-stay rom script d₀ n r i (listed r i) _ t z P.0.1 P.1),
        );
        begin = λ r t z P. (
          K.begin r t z P.0,
          let W = P.1 in record {
            lives = W.lives;
            here = λ _. W.here z;
            first = W.first;
            above = W.above;
            quiet = W.quiet;
            low = W.low;
            long = W.long;
            few = W.few;
          },
        );
        next = λ r t h P. (
          K.next r t h P.0,
          subst (λ (cs : List Call). Lives rom script d₀ n (suc r) 0 cs t) (row-over r) (lives-next rom script d₀ n r _ (listed r _) t P.1),
        );
      }

  none-alive : (k : ℕ) → n ≤ k → Lives rom script d₀ n 0 0 (listed 0 0) (first d₀ (replicate k 0) (replicate 29 0))
  unfolding calls_of first_calls accepted_of deeds survivors survivors_from flat
  none-alive k h =
      let none = all-zero k in
      record {
        lives = sym (flat-zero script (replicate k 0) 0 (none 0));
        here = λ _. none 0 ∙ zeros (strikes (row_at script 0));
        first = λ _. none 0;
        above = λ j _. none j;
        quiet = λ j _. none j;
        low = omega arith;
        long = rw (length-replicate {A = ℕ} k 0) h;
        few = λ j. omega (arith, none j);
      }

  -- the limits that a run leaves are those of the survivors' calls
  pub run-lives : (k : ℕ) → n ≤ k → let alive = (rows_tallied rom script limits n (first d₀ (replicate k 0) (replicate 29 0))).rows.alive in
      (calls_of script alive n ≡ as_calls (survivors (deeds rom d₀ (accepted_of rom d₀ (calls_of script limits n))))) × Under 65535 alive
  unfolding first_calls
  run-lives k e =
      let start = first d₀ (replicate k 0) (replicate 29 0) in
      let W = (rows-keep rom script limits n _ both-held start (nothing_yet (replicate k 0), none-alive k e) n (omega arith)).1 in
      let alive = (rows_tallied rom script limits n start).rows.alive in (
        sym (flat-calls script alive n W.long) ∙ sym (flat-zero script alive n (W.first refl)) ∙ sym W.lives
            ∙ ap (λ (cs : List Call). as_calls (survivors (deeds rom d₀ (accepted_of rom d₀ cs)))) (append-nil (calls_of script limits n)),
        W.few,
      )

-- ---- the survivors alone

-- an operation that was accepted is no other deed
abbrev happened : Deed Met → Bool
happened (did m) = true
happened struck = false
happened nothing = false

module _ (rom : List ℕ) where
  one-did : (o : Op) (d : Desk) (m : Met) → deed_at (operation o) d (called rom (operation o) d).number ≡ did m → (called rom (operation o) d).number ≡ 0
  one-did o d m =
      let k = (called rom (operation o) d).number in
      pick_case (λ (x : Deed Met). x ≡ did m → k ≡ 0) (eqb k 0) (λ e _. eqb-true k 0 e) (λ e q. absurd (subst T (sym (ap happened q)) tt))

  all-did : (d : Desk) (os : List Op) (ms : List Met) → deeds_at rom d (map operation os) ≡ map did ms → AllAccepted rom d (map operation os)
  unfolding deeds_at
  all-did d [] ms e = tt
  all-did d (o ∷ os) [] e = absurd (nil≢cons (sym e))
  all-did d (o ∷ os) (m ∷ ms) e = (one-did o d m (head-eq_of_cons-eq e), all-did (called rom (operation o) d).desk os ms (tail-eq_of_cons-eq e))

done_all : (ms : List Met) → done_of (map did ms) ≡ ms
unfolding done_of
done_all [] = refl
done_all (m ∷ ms) = ap (λ (l : List Met). m ∷ l) (done_all ms)

-- ---- both columns

module _ (rom low high entries : List ℕ) (len bitcycles : ℕ) (L : Lent rom low high entries len) (fresh : (fresh_call low high len bitcycles).number ≡ 0)
    (script : List ℕ) (bytes : Bytes script) (formed : script_formed script ≡ true) (few : length script / 8 ≤ 8192) (k : ℕ) (room : length script / 8 ≤ k) where
  abbrev d₀ : Desk
  d₀ = fresh_desk len bitcycles low high entries

  -- all calls of the script
  abbrev calls : List Call
  calls = calls_of script [] (length script / 8)

  -- the first run, and how many operations of each row it leaves
  abbrev all : Tallying
  all = script_tallied rom script [] (first d₀ (replicate k 0) (replicate 29 0))

  rows-good : (r : ℕ) → r < length script / 8 → lawful (row_at script r) ≡ true
  rows-good r h = row_lawful script bytes r ((rows-formed script formed).1 r h)

  all_small : (r : ℕ) → r < length script / 8 → limit_of [] r (row_at script r) ≤ 65535
  all_small = calls-small script bytes [] (λ j. omega arith) (length script / 8)

  -- the first run counts all accepted operations
  pub all-counted : all.totals ≡ all_of rom d₀ calls
  all-counted = run-counts rom script [] d₀ (length script / 8) rows-good all_small few (replicate k 0)

  pub all-low : Under 29527900160 all.totals
  all-low = never-high rom script [] (length script / 8) all_small few d₀ (replicate k 0)

  alive-small : (r : ℕ) → r < length script / 8 → limit_of all.rows.alive r (row_at script r) ≤ 65535
  alive-small =
      let n = length script / 8 in calls-small script bytes all.rows.alive (run-lives rom script [] d₀ n rows-good all_small few k room).1 n

  pub survivors-low : (d₁ : Desk) (again : List ℕ) → Under 29527900160 (script_tallied rom script all.rows.alive (first d₁ again (replicate 29 0))).totals
  survivors-low d₁ again = never-high rom script all.rows.alive (length script / 8) alive-small few d₁ again

  -- the second, on whatever the record and the rows then hold, counts the survivors
  pub survivors-counted : (record' again : List ℕ) → length record' ≡ length entries
      → (script_tallied rom script all.rows.alive (first (on_record d₀ record') again (replicate 29 0))).totals ≡ alive_of rom d₀ calls
  unfolding all_of alive_of
  survivors-counted record' again same =
      let n = length script / 8 in
      let cs = accepted_of rom d₀ calls in
      let d₁ = on_record d₀ record' in
      let os = reverse (survivors (deeds rom d₀ cs)) in
      let ms = reverse (survivors (deeds_at rom d₀ cs)) in
      let lives = run-lives rom script [] d₀ n rows-good all_small few k room in
      let met = (demand3 rom low high entries len bitcycles L fresh cs (typed-calls script bytes rom d₀ n)).met record' same in
      let accepted = accepted-all rom d₁ (map operation os) (all-did rom d₁ os ms met) in
      run-counts rom script all.rows.alive d₁ n rows-good alive-small few again
      ∙ ap (all_of rom d₁) lives.0
      ∙ ap (λ (l : List Call). figures_of (map (made_of rom) (done_of (deeds_at rom d₁ l)))) accepted
      ∙ ap (λ (l : List (Deed Met)). figures_of (map (made_of rom) (done_of l))) met
      ∙ ap (λ (l : List Met). figures_of (map (made_of rom) l)) (done_all ms)
