-- Invented old-byte counts are ruled out: the entry that an operation writes reads back as the machine given and the bytes overwritten.
use Rattle.std.proofs.Common.{Some}
use Prim.Native.Nat.{ℕ, ◌<◌}
use mathlib.Core.Bool.{true, false}
use mathlib.Core.List.{List, []}
use mathlib.Core.Path.{◌≡◌, refl, ap, ◌∙◌}
use native.Mathlib.Omega.{arith}
use lib.ListN.{length, get_or}
use Rattle.bench.specs.Calls.{Desk, WriteOut, write_call, world_of, PlainOut, pad_call}
use Rattle.bench.specs.{Host.with_io, Host.pad_set}
use Rattle.ring.specs.Slots.{noted}
use Rattle.bus.specs.{Access.opened, Route.route_of, Route.place_of, World.write_at}
use Rattle.common.proofs.FillLaws.{filled_grows, filled_none}
use Rattle.entry.proofs.Entries.{read-written}
use Rattle.entry.specs.Entry.{decode_at}
use Rattle.entry.specs.declared.Decoded.{Decoded}
use Rattle.bench.proofs.Accepted.{write-accepted, pad-accepted}
use Rattle.judged.proofs.Start.{start-ok, start_fits, start-lent}
use Rattle.judged.specs.Tried.{Sizes, start}
use Rattle.layout.specs.Layout.{capacity}
use Rattle.machine.specs.PowerOn.{power_on_machine}
use Rattle.ranges.specs.Machine.{machine_ok}
use Rattle.state.specs.Fit.{FitMachine}
use Rattle.state.specs.declared.Machine.{Machine}
use Rattle.wram.proofs.{FitLaws.no_olds-ok, KeepLaws.keep_grows, Ranges.OldsOk}
use Rattle.wram.specs.{Banks.banks, Sum.follows}
use Rattle.wram.specs.Olds.{Olds, no_olds, push_old, kept_at}
use Rattle.wram.specs.declared.{Old.Old, Place.TheVariants.Bank7E}

module _ (d : Desk) (olds : Olds) (f : FitMachine d.bench.machine) (p : machine_ok d.bench.machine ≡ true) (g : OldsOk olds)
    (s : d.bench.slot < capacity (length d.entries)) where
  -- the entry at the slot that was next
  pub entry-tied : (next : Machine) (sum : ℕ) {e : List ℕ} → e ≡ (noted d.bench d.entries next olds sum).entries
      → decode_at e d.bench.slot ≡ record { ok = true; machine = d.bench.machine; olds = olds }
  unfolding noted
  entry-tied next sum k = ap (λ (x : List ℕ). decode_at x d.bench.slot) k ∙ read-written d.bench.machine olds f p g d.entries d.bench.slot s

module _ (l h e : List ℕ) (s : Sizes l h e) where
  room : 0 < capacity (length e)
  room = rw s.entries (omega arith)

  -- a pad call overwrites nothing
  pub pad-olds : (word : ℕ) {o : PlainOut} → o ≡ pad_call [] (start l h e) 0 word
      → decode_at o.desk.entries 0 ≡ record { ok = true; machine = power_on_machine 264; olds = no_olds }
  pad-olds word k =
      let d = start l h e in
      let x = k ∙ pad-accepted [] d (start-lent s [] (omega arith)) 0 word (omega arith) in
      entry-tied d no_olds start_fits start-ok no_olds-ok room (pad_set (power_on_machine 264) 0 word) _ (λ i. (x i).desk.entries)

  -- a write to work RAM overwrites the one byte that stood there
  module _ (small : get_or l 0 0 < 256) where
    abbrev old : Old
    old = record { high = false; addr = 0; byte = get_or l 0 0 }

    old_ok : OldsOk (push_old no_olds old)
    unfolding push_old kept_at
    old_ok = record { filled = filled_grows (filled_none 4) (keep_grows no_olds (banks l h) (Some (Bank7E 0))) (omega arith); fits = omega arith }

    pub at_7e : (byte : ℕ) → (write_at (world_of (start l h e)) 0x7E 0 byte).core.olds ≡ push_old no_olds old
    unfolding write_at opened kept_at route_of place_of
    at_7e byte = refl

    pub write-olds : (byte : ℕ) {o : WriteOut} → o ≡ write_call [] (start l h e) 0x7E 0 byte
        → decode_at o.desk.entries 0 ≡ record { ok = true; machine = power_on_machine 264; olds = push_old no_olds old }
    write-olds byte k =
        let d = start l h e in
        let x = k ∙ write-accepted [] d (start-lent s [] (omega arith)) 0x7E 0 byte in
        let next = with_io (power_on_machine 264) (write_at (world_of d) 0x7E 0 byte).core.io in
        let sum = follows d.bench.sum d.ram (write_at (world_of d) 0x7E 0 byte).ram in
        let by = ap (λ (o : Olds). (noted d.bench d.entries next o sum).entries) (at_7e byte) in
        entry-tied d (push_old no_olds old) start_fits start-ok old_ok room next sum ((λ i. (x i).desk.entries) ∙ by)

    one-old : (push_old no_olds old).count ≡ 1
    unfolding push_old
    one-old = refl

    pub write_olds_count : (byte : ℕ) {o : WriteOut} → o ≡ write_call [] (start l h e) 0x7E 0 byte
        → (decode_at o.desk.entries 0).olds.count ≡ 1
    write_olds_count byte k = ap (λ (x : Decoded). x.olds.count) (write-olds byte k) ∙ one-old
