-- The sum that an accepted call leaves, whatever sum it was given; sums that the contracts rule out.
use Rattle.std.proofs.Common.{Some}
use Prim.Native.Nat.{ℕ, ◌+◌, ◌-◌, ◌*◌, ◌%◌, ◌^◌, ◌≤◌, ◌<◌}
use mathlib.Core.Bool.{Bool, true}
use mathlib.Core.List.{List, []}
use mathlib.Core.Logic.{◌≢◌, ◌⊎◌, inl, inr}
use mathlib.Core.Path.{◌≡◌, refl, sym, ap, ◌∙◌}
use native.Mathlib.{Decide.dec_lt, Omega.arith}
use lib.ListN.{length, get_or}
use borrow.Author.Tests.{lt-ltb}
use Rattle.bench.specs.Calls.{Desk, lent_of, CycleOut, cycle_call, ReadOut, read_call, WriteOut, write_call, PlainOut, pad_call, plug_call, answer_call, back_call, restored, world_of, bused}
use Rattle.bus.specs.{Route.route_of, Route.place_of, World.World, World.write_at}
use Rattle.bus.proofs.Adds.{write-recorded}
use Rattle.common.proofs.AllLaws.{byte_fits}
use Rattle.common.specs.Width.{Bytes}
use Rattle.entry.specs.Entry.{decode_at}
use Rattle.bench.proofs.Accepted.{cycle-accepted, read-accepted, write-accepted, pad-accepted, plug-accepted, answer-accepted, back-accepted}
use Rattle.judged.proofs.{Entries.at_7e, Entries.write-olds, Rejected.start-write, Runs.start-ready, Start.start-lent}
use Rattle.judged.specs.Tried.{two_slots, Sizes, start}
use Rattle.layout.specs.Layout.{capacity}
use Rattle.machine.specs.PowerOn.{power_on_machine}
use Rattle.ring.specs.Slots.{before, noted}
use Rattle.rewind.proofs.Calls.{lent-stands, op-keeps}
use Rattle.rewind.specs.Rules.{write, obeyed}
use Rattle.wram.proofs.SumLaws.{follow-put, follow-true, sum_below}
use Rattle.wram.specs.declared.Place.TheVariants.{Bank7E}
use Rattle.wram.specs.{Banks.Banks, Banks.banks, Banks.poked, Olds.put_back, Change.inside, Sum.ram_sum, Sum.follows}

-- ---- every accepted call: the sum given, changed by what the banks changed

abbrev Follows : Desk → ℕ → Banks → Type 0
Follows d sum ram = sum ≡ follows d.bench.sum d.ram ram

module _ (rom : List ℕ) (d : Desk) (p : lent_of d (length rom) ≡ 0) where
  pub cycle-sum : (event : ℕ) (line timer : Bool) → event ≤ 4 → d.bench.machine.board.clock < 18446744073709551615 → {o : CycleOut}
      → o ≡ cycle_call rom d event line timer → Follows d o.desk.bench.sum o.desk.ram
  unfolding noted
  cycle-sum event line timer q c k =
      let x = k ∙ cycle-accepted rom d p event line timer q c in
      ap (λ (o : CycleOut). o.desk.bench.sum) x ∙ (λ i. follows d.bench.sum d.ram (sym x i).desk.ram)

  pub read-sum : (bank addr : ℕ) {o : ReadOut} → o ≡ read_call rom d bank addr → Follows d o.desk.bench.sum o.desk.ram
  unfolding noted
  read-sum bank addr k =
      let x = k ∙ read-accepted rom d p bank addr in
      ap (λ (o : ReadOut). o.desk.bench.sum) x ∙ (λ i. follows d.bench.sum d.ram (sym x i).desk.ram)

  pub write-sum : (bank addr byte : ℕ) {o : WriteOut} → o ≡ write_call rom d bank addr byte → Follows d o.desk.bench.sum o.desk.ram
  unfolding noted
  write-sum bank addr byte k =
      let x = k ∙ write-accepted rom d p bank addr byte in
      ap (λ (o : WriteOut). o.desk.bench.sum) x ∙ (λ i. follows d.bench.sum d.ram (sym x i).desk.ram)

  -- pad, plug and port answer leave it
  pub pad-sum : (port word : ℕ) → port ≤ 1 → {o : PlainOut} → o ≡ pad_call rom d port word → o.desk.bench.sum ≡ d.bench.sum
  unfolding noted
  pad-sum port word q k = ap (λ (o : PlainOut). o.desk.bench.sum) (k ∙ pad-accepted rom d p port word q)

  pub plug-sum : (port : ℕ) (on : Bool) → port ≤ 1 → {o : PlainOut} → o ≡ plug_call rom d port on → o.desk.bench.sum ≡ d.bench.sum
  unfolding noted
  plug-sum port on q k = ap (λ (o : PlainOut). o.desk.bench.sum) (k ∙ plug-accepted rom d p port on q)

  pub answer-sum : (addr byte : ℕ) → 0x2134 ≤ addr → addr ≤ 0x2143 → {o : PlainOut} → o ≡ answer_call rom d addr byte → o.desk.bench.sum ≡ d.bench.sum
  unfolding noted
  answer-sum addr byte q s k = ap (λ (o : PlainOut). o.desk.bench.sum) (k ∙ answer-accepted rom d p addr byte q s)

pub back_sum : (d : Desk) → lent_of d 0 ≡ 0 → d.bench.kept ≢ 0 → (decode_at d.entries (before (capacity d.bench.length) d.bench.slot)).ok ≡ true
    → {o : PlainOut} → o ≡ back_call d → Follows d o.desk.bench.sum o.desk.ram
back_sum d p q s k =
    let x = k ∙ back-accepted d p q s in
    ap (λ (o : PlainOut). o.desk.bench.sum) x ∙ (λ i. follows d.bench.sum d.ram (sym x i).desk.ram)

-- ---- a write of another byte to work RAM, and the back step over it

-- a number is its rest and whole turns
turns : (x : ℕ) → x < 3 * 2 ^ 32 → (x ≡ x % 2 ^ 32) ⊎ ((x ≡ x % 2 ^ 32 + 2 ^ 32) ⊎ (x ≡ x % 2 ^ 32 + 2 * 2 ^ 32))
turns x h =
    elim (dec_lt x (2 ^ 32)) [
      | yes p ↦ inl (omega (arith, p))
      | no p ↦ elim (dec_lt x (2 * 2 ^ 32)) [ yes q ↦ inr (inl (omega (arith, p, q))) | no q ↦ inr (inr (omega (arith, q, h))) ]
    ]

-- another byte makes another sum; and twice the change leads not back either
module _ (old new before after : ℕ) (o : old < 256) (n : new < 256) (b : before < 2 ^ 32) (a : after < 2 ^ 32) where
  abbrev Moved : Type 0
  Moved = (after + old ≡ before + new) ⊎ ((after + old ≡ before + new + 2 ^ 32) ⊎ (after + old + 2 ^ 32 ≡ before + new))

  moved_by : (after + old) % 2 ^ 32 ≡ (before + new) % 2 ^ 32 → Moved
  moved_by m =
      elim (dec_lt (after + old) (2 ^ 32)) [
        | yes p ↦ elim (dec_lt (before + new) (2 ^ 32)) [ yes q ↦ inl (omega (arith, m, p, q)) | no q ↦ inr (inr (omega (arith, m, p, q))) ]
        | no p ↦ elim (dec_lt (before + new) (2 ^ 32)) [ yes q ↦ inr (inl (omega (arith, m, p, q))) | no q ↦ inl (omega (arith, m, p, q)) ]
      ]

  other-sum : Moved → after ≡ before → old ≡ new
  other-sum (inl m) z = omega (arith, m, z)
  other-sum (inr (inl m)) z = omega (arith, m, z)
  other-sum (inr (inr m)) z = omega (arith, m, z)

  twice_by : (x : ℕ) → x + before ≡ after + after + 2 ^ 32 → (x ≡ before) ⊎ ((x ≡ before + 2 ^ 32) ⊎ (x ≡ before + 2 * 2 ^ 32)) → Moved → old ≡ new
  twice_by x e (inl t) (inl m) = omega (arith, e, t, m)
  twice_by x e (inl t) (inr (inl m)) = omega (arith, e, t, m)
  twice_by x e (inl t) (inr (inr m)) = omega (arith, e, t, m)
  twice_by x e (inr (inl t)) (inl m) = omega (arith, e, t, m)
  twice_by x e (inr (inl t)) (inr (inl m)) = omega (arith, e, t, m)
  twice_by x e (inr (inl t)) (inr (inr m)) = omega (arith, e, t, m)
  twice_by x e (inr (inr t)) (inl m) = omega (arith, e, t, m)
  twice_by x e (inr (inr t)) (inr (inl m)) = omega (arith, e, t, m)
  twice_by x e (inr (inr t)) (inr (inr m)) = omega (arith, e, t, m)

  other_twice : Moved → before ≡ (after + after + (2 ^ 32 - before)) % 2 ^ 32 → old ≡ new
  other_twice m z =
      let x = after + after + (2 ^ 32 - before) in
      twice_by x (omega (arith, b)) (rw (sym z) at (turns x (omega (arith, a, b)))) m

module _ (l h e : List ℕ) (s : Sizes l h e) (fl : Bytes l) (fh : Bytes h) (byte : ℕ) (fits : byte < 256) (other : get_or l 0 0 ≢ byte) {o : WriteOut}
    (k : o ≡ write_call [] (start l h e) 0x7E 0 byte) where
  abbrev was : Banks
  was = banks l h

  abbrev is : Banks
  is = o.desk.ram

  small : get_or l 0 0 < 256
  small = byte_fits l 0 fl

  put : is ≡ poked was (Some (Bank7E 0)) byte
  unfolding write_at route_of place_of
  put = ap (λ (o : WriteOut). o.desk.ram) (k ∙ start-write l h e s 0x7E 0 byte)

  -- the sum of the banks after it, with the byte that it took the place of
  moved : Moved (get_or l 0 0) byte (ram_sum was) (ram_sum is) small fits (sum_below was) (sum_below is)
  moved =
      let n = (ram_sum was + byte + (2 ^ 32 - get_or l 0 0)) % 2 ^ 32 in
      let by : (n + get_or l 0 0) % 2 ^ 32 ≡ (ram_sum was + byte) % 2 ^ 32 = omega (arith, small, fits, sum_below was) in
      let here : ◌≡◌ {A = Bool} true (inside was (Some (Bank7E 0))) = sym (lt-ltb 0 (length l) (omega (arith, s.low))) in
      let sum : n ≡ ram_sum is = follow-put (ram_sum was) was (Some (Bank7E 0)) byte here refl refl by (omega arith) ∙ ap (follows (ram_sum was) was) (sym put) ∙ follow-true was is in
      moved_by (get_or l 0 0) byte (ram_sum was) (ram_sum is) small fits (sum_below was) (sum_below is) (ap (λ (x : ℕ). (x + get_or l 0 0) % 2 ^ 32) (sym sum) ∙ by)

  written-sum : o.desk.bench.sum ≡ ram_sum is
  written-sum = write-sum [] (start l h e) (start-lent s [] (omega arith)) 0x7E 0 byte k ∙ follow-true was is

  -- a stale sum
  pub write_stale_sum : o.desk.bench.sum ≢ ram_sum was
  write_stale_sum z = other (other-sum (get_or l 0 0) byte (ram_sum was) (ram_sum is) small fits (sum_below was) (sum_below is) moved (sym written-sum ∙ z))

  -- ---- the back step

  abbrev w : World
  w = write_at (world_of (start l h e)) 0x7E 0 byte

  abbrev after : Desk
  after = bused (start l h e) w

  is-after : o.desk ≡ after
  is-after = ap (λ (o : WriteOut). o.desk) (k ∙ start-write l h e s 0x7E 0 byte)

  after-lent : lent_of after 0 ≡ 0
  unfolding obeyed
  after-lent =
      lent-stands two_slots 0 after (omega arith) refl (omega arith)
      (op-keeps [] tt two_slots (start l h e) (start-ready l h e s fl fh) (write 0x7E 0 byte) (omega arith, omega arith, fits)).stands

  newest-is : decode_at after.entries 0 ≡ record { ok = true; machine = power_on_machine 264; olds = w.core.olds }
  newest-is =
      ap (λ (d : Desk). decode_at d.entries 0) (sym is-after) ∙ write-olds l h e s small byte k
      ∙ (λ i. record { ok = true; machine = power_on_machine 264; olds = sym (at_7e l h e s small byte) i })

  module _ {o₂ : PlainOut} (k₂ : o₂ ≡ back_call o.desk) where
    back_step : o₂ ≡ record { number = 0; desk = restored after (decode_at after.entries 0) 0 }
    unfolding noted
    back_step = k₂ ∙ ap back_call is-after ∙ back-accepted after after-lent (λ z. omega (arith, z)) (λ i. (newest-is i).ok)

    -- the sum is the one before the write
    pub back_restores_sum : o₂.desk.bench.sum ≡ ram_sum was
    unfolding noted
    back_restores_sum =
        let undone = (write-recorded (power_on_machine 264).io l h 0x7E 0 byte).back in
        ap (λ (o : PlainOut). o.desk.bench.sum) back_step
        ∙ (λ i. follows (follow-true was w.ram i) w.ram (((λ j. put_back (newest-is j).olds w.ram) ∙ undone) i))
        ∙ follow-true w.ram was

    -- one that adds instead of taking away
    pub back-adds : o₂.desk.bench.sum ≢ follows o.desk.bench.sum was is
    unfolding follows
    back-adds z =
        other
        (other_twice (get_or l 0 0) byte (ram_sum was) (ram_sum is) small fits (sum_below was) (sum_below is) moved
        (sym back_restores_sum ∙ z ∙ ap (λ (n : ℕ). (n + ram_sum is + (2 ^ 32 - ram_sum was)) % 2 ^ 32) written-sum))
