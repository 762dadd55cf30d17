-- The calls of a step and of its lines, joined into their definitions.
use Prim.Native.Nat.{ℕ, ◌+◌, ◌/◌, ◌%◌}
use mathlib.Core.Bool.{Bool, true, false, ◌&&◌, not}
use mathlib.Core.List.{List, [], ◌∷◌}
use mathlib.Core.Path.{◌≡◌, sym, ap, ◌∙◌}
use native.Mathlib.Numerals.{add-one}
use denote.Enum.Declared.{tag_of}
use types.Run.{OneOf, miss}
use lib.Dec.{leb, eqb, ltb}
use lib.ListN.{length, get_or}
use Rattle.append.specs.Sheet.{Sheet, puts}
use Rattle.append.proofs.Laws.{puts_none, then}
use Rattle.benchfile.specs.contracts.row.Row.{the_type}
use Rattle.benchfile.specs.declared.row.Row.{Row}
use Rattle.benchfile.specs.declared.row.Row.TheVariants.{Cycles, Read, Write, Pad, Plug, Answer as Reply, Back, Broken}
use Rattle.bus.specs.declared.access.Access.{Access}
use Rattle.listing.specs.{Cycle.cycle_text, Line.access_text}
use Rattle.listing.specs.Event.{back_text, refused_text, end_text}
use Rattle.state.specs.declared.Machine.{Machine}
use Rattle.touch.specs.{Reach.Reached, Reach.reach_of, declared.who.Who.TheVariants.Cpu}
use Rattle.walk.specs.{Step.Stepping, Step.step_of, Call.Answered, declared.stand.Stand.Stand}
use Rattle.moves.specs.Origin.{origin_of, noted}
use Rattle.moves.specs.Steps.{Running, keeping, listed, stepped, steps}
use Rattle.moves.specs.declared.steps.Run.{Run}
use Rattle.moves.specs.Text.{access, cpu_text, returned_text, step_text}

-- the access of a row, or its refusal
module _ (s : Sheet) (row only : ℕ) (m : Machine) (a : Access) (number : ℕ) where
  pub cpu-refused : {t : Sheet} → eqb number 0 ≡ false → t ≡ puts s (refused_text row m.board.clock number) → t ≡ puts s (cpu_text row only m a number)
  unfolding cpu_text
  cpu-refused h p = rw h p

  pub cpu-done : {t : Sheet} {r : Reached} → eqb number 0 ≡ true → r ≡ reach_of Cpu m.io.wmadd a
      → t ≡ puts s (access_text (record { row = row; clock = m.board.clock; only = only; who = Cpu }) a r false) → t ≡ puts s (cpu_text row only m a number)
  unfolding cpu_text
  cpu-done h p q = cc

-- back steps
module _ (s : Sheet) (row clock number done count origin : ℕ) where
  pub back-goes : (eqb number 0 && ltb done count) ≡ true → s ≡ puts s (returned_text row clock number done count origin)
  unfolding returned_text
  back-goes h = rw h (sym (puts_none s))

  pub back-ends : {t u : Sheet} → (eqb number 0 && ltb done count) ≡ false → t ≡ puts s (back_text row clock done count origin) → u ≡ puts t (refused_text row clock number)
      → u ≡ puts s (returned_text row clock number done count origin)
  unfolding returned_text
  back-ends h p q = rw h (then s _ _ p q)

-- every variant without lines of its own, by its place in the enum
abbrev pub others : List ℕ
others = 3 ∷ 4 ∷ 5 ∷ 7 ∷ []

module _ (s : Sheet) (row only : ℕ) (m : Machine) (o : Answered) (x : Stand) (clock origin : ℕ) where
  pub lines-cycle : {t u : Sheet} {says : Row} {count event : ℕ} {due timer : Bool} → says ≡ Cycles count event due timer
      → t ≡ puts s (cycle_text row only m o.log o.edge) → u ≡ puts t (end_text row clock only o.number x.held x.done count)
      → u ≡ puts s (step_text row only m says o x clock origin)
  unfolding step_text
  lines-cycle e p q = let j = then s _ _ p q in cc

  pub lines-read : {t : Sheet} {says : Row} {bank addr : ℕ} → says ≡ Read bank addr → t ≡ puts s (cpu_text row only m (access false bank addr (o.byte % 256)) o.number)
      → t ≡ puts s (step_text row only m says o x clock origin)
  unfolding step_text
  lines-read e p = cc

  pub lines_write : {t : Sheet} {says : Row} {bank addr byte : ℕ} → says ≡ Write bank addr byte → t ≡ puts s (cpu_text row only m (access true bank addr byte) o.number)
      → t ≡ puts s (step_text row only m says o x clock origin)
  unfolding step_text
  lines_write e p = cc

  pub lines-back : {t : Sheet} {says : Row} {count : ℕ} → says ≡ Back count → t ≡ puts s (returned_text row clock o.number x.done count origin)
      → t ≡ puts s (step_text row only m says o x clock origin)
  unfolding step_text
  lines-back e p = cc

  pub lines_other : {t : Sheet} (says : Row) → OneOf others (tag_of the_type says) → t ≡ puts s (refused_text row clock o.number) → t ≡ puts s (step_text row only m says o x clock origin)
  unfolding step_text
  lines_other (Cycles count event due timer) h p = absurd (miss others 0 tt h)
  lines_other (Read bank addr) h p = absurd (miss others 1 tt h)
  lines_other (Write bank addr byte) h p = absurd (miss others 2 tt h)
  lines_other (Pad port word) h p = p
  lines_other (Plug port on) h p = p
  lines_other (Reply addr byte) h p = p
  lines_other (Back count) h p = absurd (miss others 6 tt h)
  lines_other Broken h p = p

-- a run that goes on still lends the same slices
pub then_kept : (a b c : Run) → b ≡ keeping a b → c ≡ keeping b c → c ≡ keeping a c
then_kept a b c e f = f ∙ ap (λ (w : Run). keeping w c) e

-- one step more
pub steps_more : {rom lent : List ℕ} (script : List ℕ) (only i : ℕ) (t : Running) {u v : Running} → u ≡ steps rom script only i t → lent ≡ rom
    → v ≡ stepped lent script only u → v ≡ steps rom script only (i + 1) t
unfolding steps
steps_more script only i t h r k = rw (add-one i) cc

-- a call with its lines
pub list_joined : (rom script : List ℕ) (only row : ℕ) (w : Running) {s : Stepping} {here origin : ℕ} {origins : List ℕ} {u : Sheet} → s ≡ step_of rom script w.stand w.desk
    → here ≡ origin_of row w.stand.done
    → origins ≡ noted w.origins w.desk.bench.slot here (eqb s.made.answer.number 0 && not s.made.answer.back)
    → origin ≡ get_or origins s.made.desk.bench.slot 0
    → u ≡ puts w.sheet (step_text row only w.desk.bench.machine s.says s.made.answer s.stand s.made.desk.bench.machine.board.clock origin)
    → ◌≡◌ {A = Running} (record { desk = s.made.desk; origins = origins; stand = s.next; number = s.made.answer.number; sheet = u }) (listed rom script only row w)
unfolding listed
list_joined rom script only row w a b c d e = cc

module _ (rom script : List ℕ) (only : ℕ) (w : Running) where
  pub step_none : leb (length script / 8) w.stand.next ≡ true → w ≡ stepped rom script only w
  unfolding stepped
  step_none a = cc

  module _ (a : leb (length script / 8) w.stand.next ≡ false) where
    pub step_refused : eqb w.number 0 ≡ false → w ≡ stepped rom script only w
    unfolding stepped
    step_refused b = cc

    module _ (b : eqb w.number 0 ≡ true) {t : Bool} (c : t ≡ leb (w.sheet.at + 2048) (length w.sheet.text)) where
      pub step_full : t ≡ false → w ≡ stepped rom script only w
      unfolding stepped
      step_full e = cc

      pub step_goes : t ≡ true → {x : Running} → x ≡ listed rom script only (w.stand.next + 1) w → x ≡ stepped rom script only w
      unfolding stepped
      step_goes e p = cc
