-- A refused call leaves what it was lent and the machine that it was given, whatever was bad.
use Prim.Native.Nat.{ℕ}
use mathlib.Core.Bool.{Bool}
use mathlib.Core.List.{List}
use mathlib.Core.Logic.{◌≢◌}
use mathlib.Core.Path.{◌≡◌, refl}
use lib.Dec.{eqb}
use lib.ListN.{length}
use Rattle.bench.specs.Calls.{Desk, lent_of, CycleOut, cycle_refused, cycle_call, ReadOut, read_call, WriteOut, write_call, PlainOut, Hosting, hosted, on_banks, pad_call, plug_call, answer_call, back_call, empty_bench, FreshOut, fresh_call}
use Rattle.ring.specs.Refusal.{cycle_number, port_number, address_number, back_number, fresh_number}
use Rattle.ring.specs.Slots.{before}
use Rattle.common.proofs.TableLaws.{pick_elim}
use Rattle.entry.specs.Entry.{decode_at}
use Rattle.layout.specs.Layout.{capacity}

abbrev pub PlainLeaves : Desk → PlainOut → Type 0
PlainLeaves d o = o.number ≢ 0 → o ≡ record { number = o.number; desk = d }

module _ (rom : List ℕ) (d : Desk) where
  pub cycle-leaves : (event : ℕ) (line timer : Bool) → let o = cycle_call rom d event line timer in o.number ≢ 0 → o ≡ cycle_refused d o.number
  unfolding cycle_call
  cycle-leaves event line timer =
      pick_elim (λ (o : CycleOut). o.number ≢ 0 → o ≡ cycle_refused d o.number) (eqb (cycle_number (lent_of d (length rom)) d.bench event) 0)
      (λ q. absurd (q refl)) (λ q. refl)

  pub read-leaves : (bank addr : ℕ) → let o = read_call rom d bank addr in o.number ≢ 0 → o ≡ record { number = o.number; byte = 0; cost = 0; desk = d }
  unfolding read_call
  read-leaves bank addr =
      pick_elim (λ (o : ReadOut). o.number ≢ 0 → o ≡ record { number = o.number; byte = 0; cost = 0; desk = d }) (eqb (lent_of d (length rom)) 0)
      (λ q. absurd (q refl)) (λ q. refl)

  pub write-leaves : (bank addr byte : ℕ) → let o = write_call rom d bank addr byte in o.number ≢ 0 → o ≡ record { number = o.number; cost = 0; desk = d }
  unfolding write_call
  write-leaves bank addr byte =
      pick_elim (λ (o : WriteOut). o.number ≢ 0 → o ≡ record { number = o.number; cost = 0; desk = d }) (eqb (lent_of d (length rom)) 0)
      (λ q. absurd (q refl)) (λ q. refl)

  pub pad-leaves : (port word : ℕ) → PlainLeaves d (pad_call rom d port word)
  unfolding pad_call hosted
  pad-leaves port word =
      pick_elim (λ (x : Hosting). PlainLeaves d (on_banks d.ram x)) (eqb (port_number (lent_of d (length rom)) port) 0) (λ q. absurd (q refl)) (λ q. refl)

  pub plug-leaves : (port : ℕ) (on : Bool) → PlainLeaves d (plug_call rom d port on)
  unfolding plug_call hosted
  plug-leaves port on =
      pick_elim (λ (x : Hosting). PlainLeaves d (on_banks d.ram x)) (eqb (port_number (lent_of d (length rom)) port) 0) (λ q. absurd (q refl)) (λ q. refl)

  pub answer-leaves : (addr byte : ℕ) → PlainLeaves d (answer_call rom d addr byte)
  unfolding answer_call hosted
  answer-leaves addr byte =
      pick_elim (λ (x : Hosting). PlainLeaves d (on_banks d.ram x)) (eqb (address_number (lent_of d (length rom)) addr) 0) (λ q. absurd (q refl)) (λ q. refl)

pub back-leaves : (d : Desk) → PlainLeaves d (back_call d)
unfolding back_call
back-leaves d =
    let e = decode_at d.entries (before (capacity d.bench.length) d.bench.slot) in
    pick_elim (PlainLeaves d) (eqb (back_number (lent_of d 0) d.bench.kept e.ok) 0) (λ q. absurd (q refl)) (λ q. refl)

-- a refused fresh: power-on values with bit cycles 1, record length 0 and sum 0
pub fresh-leaves : (low high : List ℕ) (room bitcycles : ℕ) → let o = fresh_call low high room bitcycles in o.number ≢ 0 → o.bench ≡ empty_bench 0 1 0
unfolding fresh_call
fresh-leaves low high room bitcycles =
    pick_elim (λ (o : FreshOut). o.number ≢ 0 → o.bench ≡ empty_bench 0 1 0) (eqb (fresh_number (length low) (length high) room bitcycles) 0)
    (λ q. absurd (q refl)) (λ q. refl)
