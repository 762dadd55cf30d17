-- One call more of a row; a rig that a run goes on with still lends the same slices; and which number a refusal has.
use Rattle.std.proofs.Common.{◌≡◌, ℕ, ◌+◌, ◌%◌, ◌^◌, ◌<◌, arith, Bool, true, false, eqb, List, Option, Some, None, is_some, not, sym, refl, ap, ◌∙◌, add-one, ne_eqb}
use mir.Val.{bool_byte}
use Rattle.common.specs.Refusal.{number_of, refusal_number}
use Rattle.common.specs.declared.refusal.Refusal.{Refusal}
use Rattle.common.proofs.RefusalLaws.{refusal_number-ne0}
use Rattle.bench.specs.Calls.{Desk, CycleOut, cycle_call, PlainOut, back_call}
use Rattle.script.specs.Rig.{desk_of, holding}
use Rattle.script.specs.Run.{Running, first_of, first_flag, plus_one, counted, struck, cycle_step, cycles_run, back_step, backs_run}
use Rattle.script.specs.declared.rig.Rig.{Rig}

pub then_same : (a b c : Rig) → b ≡ holding a (desk_of b) → c ≡ holding b (desk_of c) → c ≡ holding a (desk_of c)
then_same a b c e f = f ∙ ap (λ (g : Rig). holding g (desk_of c)) e

pub cycles_more : {rom lent : List ℕ} (event : ℕ) (line timer : Bool) (i : ℕ) (d : Desk) {s t : Running} {e : ℕ} {l u : Bool}
    → s ≡ cycles_run rom event line timer i d → lent ≡ rom → e ≡ first_of i event → l ≡ first_flag i line → u ≡ first_flag i timer
    → t ≡ cycle_step lent e l u s → t ≡ cycles_run rom event line timer (i + 1) d
unfolding cycles_run
cycles_more event line timer i d h r p q o k = rw (add-one i) cc

pub backs_more : (i : ℕ) (d : Desk) {s t : Running} → s ≡ backs_run i d → t ≡ back_step s → t ≡ backs_run (i + 1) d
unfolding backs_run
backs_more i d h k = rw (add-one i) cc

-- a flag as a number counts one
pub counted_by : (n : ℕ) (b : Bool) → n < 2 ^ 32 → (n + bool_byte b) % 2 ^ 32 ≡ plus_one n b
counted_by n true h = refl
counted_by n false h = omega (arith, h)

-- a refusal's number is not 0
pub stopped : (o : Option Refusal) {b : Bool} → b ≡ is_some o → b ≡ true → eqb (number_of o) 0 ≡ false
stopped (Some r) e t = ne_eqb (refusal_number r) 0 (refusal_number-ne0 r)
stopped None e t = cc

pub unrefused : (o : Option Refusal) {b : Bool} → b ≡ is_some o → b ≡ false → eqb (number_of o) 0 ≡ true
unrefused (Some r) e t = cc
unrefused None e t = refl

pub accepted : (o : Option Refusal) (b : Bool) → is_some o ≡ not b → b ≡ eqb (number_of o) 0
accepted (Some r) true e = cc
accepted (Some r) false e = sym (ne_eqb (refusal_number r) 0 (refusal_number-ne0 r))
accepted None true e = refl
accepted None false e = cc

-- one call more, unless one was refused
pub cycle_stopped : (rom : List ℕ) (event : ℕ) (line timer : Bool) (s : Running) → eqb s.number 0 ≡ false → s ≡ cycle_step rom event line timer s
unfolding cycle_step
cycle_stopped rom event line timer s z = cc

pub cycle_goes : (rom : List ℕ) (event : ℕ) (line timer : Bool) (s : Running) {o : CycleOut} → eqb s.number 0 ≡ true → o ≡ cycle_call rom s.desk event line timer
    → counted s o ≡ cycle_step rom event line timer s
unfolding cycle_step
cycle_goes rom event line timer s z p = cc

pub back_stopped : (s : Running) → eqb s.number 0 ≡ false → s ≡ back_step s
unfolding back_step
back_stopped s z = cc

pub back_goes : (s : Running) {o : PlainOut} → eqb s.number 0 ≡ true → o ≡ back_call s.desk → struck s o ≡ back_step s
unfolding back_step
back_goes s z p = cc
