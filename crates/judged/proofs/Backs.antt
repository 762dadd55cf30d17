-- Back on an operation just done: refusing it, or leaving what the operation did, are wrong answers that the contract rules out.
use Prim.Native.Nat.{ℕ}
use mathlib.Core.Bool.{true}
use mathlib.Core.List.{List, []}
use mathlib.Core.Logic.{◌≢◌}
use mathlib.Core.Path.{◌≡◌, refl, sym, ap, ◌∙◌}
use native.Mathlib.Omega.{arith}
use Rattle.bench.specs.Calls.{Desk, lent_of, PlainOut, pad_call, back_call}
use Rattle.bench.specs.Host.{pad_set}
use Rattle.ring.specs.{Refusal.lent_number, Slots.noted}
use Rattle.entry.proofs.Entries.{length-written}
use Rattle.entry.specs.Entry.{decode_at}
use Rattle.bench.proofs.Accepted.{host_done, back-accepted}
use Rattle.judged.proofs.{Entries.pad-olds, Rejected.start-pad}
use Rattle.judged.specs.Tried.{Sizes, start}
use Rattle.machine.specs.PowerOn.{power_on_dma, power_on_machine}
use Rattle.ranges.specs.Machine.{machine_ok}
use Rattle.registers.specs.PowerOn.{power_on}
use Rattle.state.specs.declared.Machine.{Machine}
use Rattle.wram.specs.Olds.{no_olds}

padded : Machine
padded = pad_set (power_on_machine 264) 0 16

padded-ok : machine_ok padded ≡ true
unfolding padded pad_set machine_ok power_on_machine power_on_dma power_on
padded-ok = refl

module _ (l h e : List ℕ) (s : Sizes l h e) {o : PlainOut} (k : o ≡ pad_call [] (start l h e) 0 16) where
  abbrev after : Desk
  after = (host_done (start l h e) padded).desk

  after-lent : lent_of after 0 ≡ 0
  unfolding lent_number noted
  after-lent = rw (s.low, s.high, length-written e 0 (power_on_machine 264) no_olds ∙ s.entries, padded-ok)

  is-after : o.desk ≡ after
  unfolding padded
  is-after = ap (λ (o : PlainOut). o.desk) (k ∙ start-pad l h e s 16)

  newest-is : decode_at after.entries 0 ≡ record { ok = true; machine = power_on_machine 264; olds = no_olds }
  newest-is = ap (λ (d : Desk). decode_at d.entries 0) (sym is-after) ∙ pad-olds l h e s 16 k

  module _ {o₂ : PlainOut} (k₂ : o₂ ≡ back_call o.desk) where
    pub back-machine : o₂.desk.bench.machine ≡ power_on_machine 264
    unfolding noted
    back-machine =
        let x = k₂ ∙ ap back_call is-after ∙ back-accepted after after-lent (λ z. omega (arith, z)) (λ i. (newest-is i).ok) in
        ap (λ (o : PlainOut). o.desk.bench.machine) x ∙ (λ i. (newest-is i).machine)

    pub back_not_refused : o₂.number ≡ 0
    unfolding noted
    back_not_refused =
        ap (λ (o : PlainOut). o.number) (k₂ ∙ ap back_call is-after ∙ back-accepted after after-lent (λ z. omega (arith, z)) (λ i. (newest-is i).ok))

    -- the pad word still there
    pub back_pad_stays : o₂.desk.bench.machine.board.pad1 ≢ 16
    unfolding power_on_machine
    back_pad_stays z = omega (arith, sym (ap (λ (m : Machine). m.board.pad1) back-machine) ∙ z)
