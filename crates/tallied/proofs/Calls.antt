-- Each call of a row is the call that the history lists, and counts what the history has of it.
use Prim.Native.Nat.{ℕ}
use mathlib.Core.Bool.{Bool, true, false}
use mathlib.Core.List.{List, [], ◌∷◌, ◌++◌, map, append-nil}
use mathlib.Core.Logic.{◌≢◌}
use mathlib.Core.Path.{◌≡◌, refl, sym, ap, subst, ◌∙◌}
use borrow.Author.Tests.{eqb-false}
use lib.Dec.{eqb, T}
use lib.ListN.{length}
use Rattle.common.proofs.TableLaws.{pick_case}
use Rattle.common.specs.Pick.{pick}
use Rattle.bench.specs.Calls.{Desk, lent_of, event_of, CycleOut, cycle_done, cycle_refused, cycle_call}
use Rattle.benchfile.specs.Row.{lawful}
use Rattle.benchfile.specs.declared.row.Row.{Row}
use Rattle.benchfile.specs.declared.row.Row.TheVariants.{Cycles, Read, Write, Pad, Plug, Answer as Reply, Back, Broken}
use Rattle.machine.specs.Cycle.{cycled}
use Rattle.rewind.specs.Run.{called, made_at}
use Rattle.ring.specs.{Refusal.cycle_number, Slots.noted}
use Rattle.script.specs.Row.{row_run}
use Rattle.script.specs.Run.{first_of, first_flag}
use Rattle.tally.specs.Figure.{Made, figures_of}
use Rattle.tally.specs.Run.{count_by}
use Rattle.tally.specs.Share.{made_by, share_of, passing, raised, Counted, counted, count_call}
use Rattle.touch.specs.Who.{who_of}
use Rattle.walk.specs.Call.{call_of}
use Rattle.tallied.specs.History.{made_of, call_at, done_of}
use Rattle.tallied.specs.Tied.{cycle_made}
use Rattle.tallied.proofs.Adds.{raised-adds, none-adds}

-- a row that is no back row makes operations
abbrev pub strikes : Row → Bool
strikes (Cycles count event due timer) = false
strikes (Read bank addr) = false
strikes (Write bank addr byte) = false
strikes (Pad port word) = false
strikes (Plug port on) = false
strikes (Reply addr byte) = false
strikes (Back count) = true
strikes Broken = true

module _ (rom : List ℕ) (i : ℕ) (d : Desk) where
  -- the call, with whether it is a back step
  pub record Is (says : Row) : Type 0 where
    pub desk : (call_of rom i says d).desk ≡ (called rom (call_at says i) d).desk
    pub number : (call_of rom i says d).answer.number ≡ (called rom (call_at says i) d).number
    pub back : (call_of rom i says d).answer.back ≡ strikes says

  pub call-is : (says : Row) → lawful says ≡ true → Is says
  unfolding call_of called row_run
  call-is (Cycles count event due timer) h = record { desk = refl; number = refl; back = refl }
  call-is (Read bank addr) h = record { desk = refl; number = refl; back = refl }
  call-is (Write bank addr byte) h = record { desk = refl; number = refl; back = refl }
  call-is (Pad port word) h = record { desk = refl; number = refl; back = refl }
  call-is (Plug port on) h = record { desk = refl; number = refl; back = refl }
  call-is (Reply addr byte) h = record { desk = refl; number = refl; back = refl }
  call-is (Back count) h = record { desk = refl; number = refl; back = refl }
  call-is Broken h = absurd (subst T (sym h) tt)

  -- an accepted cycle made what the rules have it make
  pub cycle-made : (event : ℕ) (line timer : Bool) → let o = cycle_call rom d event line timer in o.number ≡ 0
      → made_by (who_of d.bench.machine.dma) o.held o.desk.bench.machine.dma.state o.log
      ≡ cycle_made d.bench.machine (cycled rom d.bench.machine d.ram.low d.ram.high (event_of event) line timer)
  unfolding cycle_call noted
  cycle-made event line timer =
      let n = cycle_number (lent_of d (length rom)) d.bench event in
      let t = cycled rom d.bench.machine d.ram.low d.ram.high (event_of event) line timer in
      pick_case (λ (o : CycleOut). o.number ≡ 0
      → made_by (who_of d.bench.machine.dma) o.held o.desk.bench.machine.dma.state o.log ≡ cycle_made d.bench.machine t)
      (eqb n 0) {x = cycle_done d t} {y = cycle_refused d n} (λ e z. refl) (λ e z. absurd (eqb-false n 0 e z))

-- a share that no total refuses
count-adds : (l : List Made) (m : Made) → (count_call (figures_of l) (share_of m)).number ≢ 13 → count_call (figures_of l) (share_of m) ≡ counted 0 (figures_of (l ++ (m ∷ [])))
unfolding count_call
count-adds l m h = go (passing (share_of m) (figures_of l)) h
  where
    go : (b : Bool) → (pick b (counted 13 (figures_of l)) (counted 0 (raised (share_of m) (figures_of l)))).number ≢ 13
        → pick b (counted 13 (figures_of l)) (counted 0 (raised (share_of m) (figures_of l))) ≡ counted 0 (figures_of (l ++ (m ∷ [])))
    go true k = absurd (k refl)
    go false k = ap (counted 0) (raised-adds l m)

-- what an accepted call adds to the list of operations made
abbrev pub added : List ℕ → Row → ℕ → Desk → List Made
added rom says i d = map (made_of rom) (done_of (made_at (call_at says i) d ∷ []))

module _ (rom : List ℕ) (i : ℕ) (d : Desk) (l : List Made) where
  -- and to the totals
  pub call-counts : (says : Row) → (call_of rom i says d).answer.number ≡ 0 → (count_by says d (call_of rom i says d) (figures_of l)).number ≢ 13
      → count_by says d (call_of rom i says d) (figures_of l) ≡ counted 0 (figures_of (l ++ added rom says i d))
  unfolding call_of done_of
  call-counts (Cycles count event due timer) z h =
      let e = ap (λ (m : Made). count_call (figures_of l) (share_of m)) (cycle-made rom i d (first_of i event) (first_flag i due) (first_flag i timer) z) in
      e ∙ count-adds l _ (λ q. h (ap (λ (c : Counted). c.number) e ∙ q))
  call-counts (Read bank addr) z h = ap (counted 0) (sym (none-adds l))
  call-counts (Write bank addr byte) z h = ap (counted 0) (sym (none-adds l))
  call-counts (Pad port word) z h = ap (counted 0) (sym (none-adds l))
  call-counts (Plug port on) z h = ap (counted 0) (sym (none-adds l))
  call-counts (Reply addr byte) z h = ap (counted 0) (sym (none-adds l))
  call-counts (Back count) z h = ap (λ (x : List Made). counted 0 (figures_of x)) (sym (append-nil l))
  call-counts Broken z h = ap (λ (x : List Made). counted 0 (figures_of x)) (sym (append-nil l))
