-- A script walked is the script run: every row leaves the desk and the refusal that `row_run` gives. A row of cycles or of back steps is
-- walked one call at a time, to its last or to the first that is refused, and the calls held are its B.
use Rattle.std.proofs.Common.{◌≡◌, ℕ, zero, suc, ◌+◌, ◌<◌, ◌≤◌, Bool, true, false, eqb, List, sym, refl, ap, ◌∙◌, subst, arith, lt-ltb, eq-eqb, eqb-true}
use denote.Enum.Declared.{tag_of}
use types.Run.{OneOf, miss}
use Rattle.common.specs.Pick.{pick}
use Rattle.bench.specs.Calls.{Desk}
use Rattle.benchfile.specs.contracts.row.Row.{the_type}
use Rattle.benchfile.specs.declared.row.Row.{Row}
use Rattle.benchfile.specs.declared.row.Row.TheVariants.{Cycles, Read, Write, Pad, Plug, Answer as Reply, Back, Broken}
use Rattle.script.specs.Row.{row_run}
use Rattle.script.specs.Run.{Running, plus_one, cycle_step, cycles_run, back_step, backs_run}
use Rattle.walk.specs.{Call.Calling, Call.call_of, Step.Stepping, Step.step_by}
use Rattle.walk.specs.Stand.{up, counted, onward}
use Rattle.walk.specs.declared.stand.Stand.{Stand}
use Rattle.walk.proofs.Join.{others}

-- where a walk stands: what is lent, the script, the refusal of the last call or 0
pub record Walk : Type 0 where
  pub desk : Desk
  pub stand : Stand
  pub number : ℕ

abbrev pub walk_of : Stepping → Walk
walk_of s = record { desk = s.made.desk; stand = s.next; number = s.made.answer.number }

-- one call of a row, and n of them
abbrev pub row_step : List ℕ → Row → Walk → Walk
row_step rom says w = walk_of (step_by w.stand says (call_of rom w.stand.done says w.desk))

unfoldable pub row_steps : List ℕ → Row → ℕ → Walk → Walk
row_steps rom says zero w = w
row_steps rom says (suc n) w = row_step rom says (row_steps rom says n w)

-- the same desk and the same refusal
pub record Same (w : Walk) (s : Running) : Type 0 where
  pub desk : w.desk ≡ s.desk
  pub number : w.number ≡ s.number

-- a row that is one call
pub other-same : (rom : List ℕ) (says : Row) (w : Walk) → OneOf others (tag_of the_type says) → Same (row_step rom says w) (row_run rom says w.desk)
unfolding call_of
other-same rom (Cycles count event due timer) w h = absurd (miss others 0 tt h)
other-same rom (Read bank addr) w h = record { desk = refl; number = refl }
other-same rom (Write bank addr byte) w h = record { desk = refl; number = refl }
other-same rom (Pad port word) w h = record { desk = refl; number = refl }
other-same rom (Plug port on) w h = record { desk = refl; number = refl }
other-same rom (Reply addr byte) w h = record { desk = refl; number = refl }
other-same rom (Back count) w h = absurd (miss others 6 tt h)
other-same rom Broken w h = record { desk = refl; number = refl }

-- both count alike below 65,536
counts-alike : (n b m : ℕ) (c : Bool) → n ≡ b → b ≤ m → m < 65535 → (up n c ≡ plus_one b c) × (plus_one b c ≤ m + 1)
counts-alike n b m true e h k = (omega arith, omega arith)
counts-alike n b m false e h k = (omega arith, omega arith)

onward-same : (s : Stand) (count : ℕ) → s.done < count → onward s count ≡ s
unfolding onward
onward-same s count h = rw (lt-ltb s.done count h)

-- a call counted: A the accepted ones, B those held
abbrev adds : Running → Calling → Running
adds s o = record { number = o.answer.number; a = plus_one s.a (eqb o.answer.number 0); b = plus_one s.b o.answer.held; desk = o.desk }

-- a row whose run is made of its calls, each unless one was refused before it
record Made (rom : List ℕ) (says : Row) (count : ℕ) (run : ℕ → Running) : Type 0 where
  again : (i : ℕ) → run (suc i) ≡ pick (eqb (run i).number 0) (adds (run i) (call_of rom i says (run i).desk)) (run i)
  counts : (i : ℕ) (d : Desk) → (call_of rom i says d).answer.count ≡ count

module _ (rom : List ℕ) (says : Row) (count : ℕ) (run : ℕ → Running) (made : Made rom says count run) where
  abbrev call_at : ℕ → Calling
  call_at i = call_of rom i says (run i).desk

  goes : (i : ℕ) → (run i).number ≡ 0 → run (suc i) ≡ adds (run i) (call_at i)
  goes i e = made.again i ∙ rw (eq-eqb (run i).number 0 e)

  -- none was refused before one that was not
  before : (i : ℕ) → (run (suc i)).number ≡ 0 → (run i).number ≡ 0
  before i e = go (eqb (run i).number 0) refl (sym (ap (λ (s : Running). s.number) (made.again i)) ∙ e)
    where
      go : (t : Bool) → eqb (run i).number 0 ≡ t → (pick t (adds (run i) (call_at i)) (run i)).number ≡ 0 → (run i).number ≡ 0
      go true h p = eqb-true (run i).number 0 h
      go false h p = p

  -- what a walk and a run have in common after i calls
  record After (w : Walk) (i : ℕ) : Type 0 where
    desk : w.desk ≡ (run i).desk
    done : w.stand.done ≡ i
    held : w.stand.held ≡ (run i).b
    most : (run i).b ≤ i
    accepted : (run i).number ≡ 0

  module _ (w : Walk) (i : ℕ) (x : After w i) where
    abbrev here : Calling
    here = call_of rom w.stand.done says w.desk

    call_same : here ≡ call_at i
    call_same = rw x.desk (rw x.done refl)

    step_same : Same (row_step rom says w) (run (suc i))
    step_same =
        let e = goes i x.accepted in
        record {
          desk = ap (λ (o : Calling). o.desk) call_same ∙ sym (ap (λ (s : Running). s.desk) e);
          number = ap (λ (o : Calling). o.answer.number) call_same ∙ sym (ap (λ (s : Running). s.number) e);
        }

    -- where it is not the last and was accepted, the next finds them alike again
    more : suc i < count → count < 65536 → (run (suc i)).number ≡ 0 → After (row_step rom says w) (suc i)
    unfolding counted
    more h k a =
        let e = goes i x.accepted in
        let b = ap (λ (s : Running). s.b) e in
        let z : here.answer.number ≡ 0 = step_same.number ∙ a in
        let alike = counts-alike w.stand.held (run i).b i (call_at i).answer.held x.held x.most (omega arith) in
        let t = counted w.stand here.answer.number here.answer.held in
        let d : t.done ≡ suc i = rw (eq-eqb here.answer.number 0 z) (omega (arith, x.done)) in
        let c = made.counts w.stand.done w.desk in
        let on : onward t here.answer.count ≡ t = onward-same t here.answer.count (omega (arith, d, c)) in
        record {
          desk = step_same.desk;
          done = ap (λ (s : Stand). s.done) on ∙ d;
          held = ap (λ (s : Stand). s.held) on ∙ ap (λ (o : Calling). up w.stand.held o.answer.held) call_same ∙ alike.0 ∙ sym b;
          most = omega (arith, b, alike.1);
          accepted = a;
        }

  module _ (w : Walk) (first : After w 0) (k : count < 65536) where
    alike : (n : ℕ) → n < count → (run n).number ≡ 0 → After (row_steps rom says n w) n
    unfolding row_steps
    alike zero h a = first
    alike (suc n) h a = more (row_steps rom says n w) n (alike n (omega arith) (before n a)) h k a

    -- n calls accepted and one more, whether that is the row's last, refused, or neither
    calls_same : (n : ℕ) → n < count → (run n).number ≡ 0 → Same (row_steps rom says (suc n) w) (run (suc n))
    unfolding row_steps
    calls_same n h a = step_same (row_steps rom says n w) n (alike n h a)

-- a row of cycles, a row of back steps
cycles-made : (rom : List ℕ) (count event : ℕ) (due timer : Bool) (d : Desk) → Made rom (Cycles count event due timer) count (λ i. cycles_run rom event due timer i d)
unfolding call_of cycles_run cycle_step
cycles-made rom count event due timer d = record { again = λ i. refl; counts = λ i e. refl }

backs_made : (rom : List ℕ) (count : ℕ) (d : Desk) → Made rom (Back count) count (λ i. backs_run i d)
unfolding call_of backs_run back_step
backs_made rom count d = record { again = λ i. refl; counts = λ i e. refl }

module _ (rom : List ℕ) (w : Walk) (done : w.stand.done ≡ 0) (held : w.stand.held ≡ 0) (count : ℕ) (k : count < 65536) where
  pub cycles-same : (event : ℕ) (due timer : Bool) (n : ℕ) → n < count → (cycles_run rom event due timer n w.desk).number ≡ 0
      → Same (row_steps rom (Cycles count event due timer) (suc n) w) (cycles_run rom event due timer (suc n) w.desk)
  unfolding cycles_run
  cycles-same event due timer =
      calls_same rom (Cycles count event due timer) count (λ i. cycles_run rom event due timer i w.desk) (cycles-made rom count event due timer w.desk) w
      (record { desk = refl; done = done; held = held; most = omega arith; accepted = refl }) k

  pub backs_same : (n : ℕ) → n < count → (backs_run n w.desk).number ≡ 0 → Same (row_steps rom (Back count) (suc n) w) (backs_run (suc n) w.desk)
  unfolding backs_run
  backs_same =
      calls_same rom (Back count) count (λ i. backs_run i w.desk) (backs_made rom count w.desk) w
      (record { desk = refl; done = done; held = held; most = omega arith; accepted = refl }) k

  -- a row walked to its end
  pub cycles-whole : (event : ℕ) (due timer : Bool) (n : ℕ) → count ≡ suc n → (cycles_run rom event due timer n w.desk).number ≡ 0
      → Same (row_steps rom (Cycles count event due timer) count w) (row_run rom (Cycles count event due timer) w.desk)
  unfolding row_run
  cycles-whole event due timer n e a =
      subst (λ (m : ℕ). Same (row_steps rom (Cycles count event due timer) m w) (cycles_run rom event due timer m w.desk)) (sym e)
      (cycles-same event due timer n (omega arith) a)

  pub backs_whole : (n : ℕ) → count ≡ suc n → (backs_run n w.desk).number ≡ 0
      → Same (row_steps rom (Back count) count w) (row_run rom (Back count) w.desk)
  unfolding row_run
  backs_whole n e a =
      subst (λ (m : ℕ). Same (row_steps rom (Back count) m w) (backs_run m w.desk)) (sym e) (backs_same n (omega arith) a)
