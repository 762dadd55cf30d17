-- What an accepted fresh gives: two whole banks, a record of whole entries, one at least, bit cycles in their range, and power-on.
use Prim.Native.Nat.{ℕ, ◌%◌, ◌≤◌, ◌<◌}
use mathlib.Core.Bool.{false, not}
use mathlib.Core.List.{List}
use mathlib.Core.Path.{◌≡◌, refl, sym, ◌∙◌}
use borrow.Author.Tests.{eqb-true, eqb-false, ltb-false, not-false}
use lib.Dec.{eqb, ltb}
use lib.ListN.{length}
use Rattle.bench.specs.Calls.{empty_bench, FreshOut, fresh_call}
use Rattle.ring.specs.Refusal.{banks_off, length_off, bits_off, fresh_number}
use Rattle.common.proofs.TableLaws.{pick_case}
use Rattle.common.specs.Pick.{pick}
use Rattle.layout.specs.Layout.{entry_size}
use Rattle.wram.specs.{Banks.banks, Sum.ram_sum}
use Rattle.rewind.proofs.Unrefused.{unpicked, or_left, or_right, positive}

pub record Fresh (low high : List ℕ) (len bitcycles : ℕ) : Type 0 where
  pub low-length : length low ≡ 65536
  pub high-length : length high ≡ 65536
  pub some : 0 < len
  pub whole : len % entry_size ≡ 0
  pub least : 1 ≤ bitcycles
  pub most : bitcycles ≤ 4096
  pub power-on : (fresh_call low high len bitcycles).bench ≡ empty_bench len bitcycles (ram_sum (banks low high))

module _ (low high : List ℕ) (len bitcycles : ℕ) where
  abbrev refused : ℕ
  refused = fresh_number (length low) (length high) len bitcycles

  pub fresh-number : (fresh_call low high len bitcycles).number ≡ refused
  unfolding fresh_call
  fresh-number =
      pick_case (λ (r : FreshOut). r.number ≡ refused) (eqb refused 0) (λ e. sym (eqb-true refused 0 e)) (λ e. refl)

  pub fresh-facts : (fresh_call low high len bitcycles).number ≡ 0 → Fresh low high len bitcycles
  unfolding fresh_call fresh_number
  fresh-facts e =
      let z : refused ≡ 0 = sym fresh-number ∙ e in
      let b : banks_off (length low) (length high) ≡ false = unpicked (banks_off (length low) (length high)) 0 (pick (length_off len) 2 (pick (bits_off bitcycles) 10 0)) z in
      let y : ◌≡◌ {A = ℕ} (pick (length_off len) 2 (pick (bits_off bitcycles) 10 0)) 0 = rw b at z in
      let l : length_off len ≡ false = unpicked (length_off len) 1 (pick (bits_off bitcycles) 10 0) y in
      let c : bits_off bitcycles ≡ false = unpicked (bits_off bitcycles) 9 0 (rw l at y) in
      let l₀ = not (eqb (length low) 65536) in
      let h₀ = not (eqb (length high) 65536) in
      record {
        low-length = eqb-true (length low) 65536 (not-false (eqb (length low) 65536) (or_left l₀ h₀ b));
        high-length = eqb-true (length high) 65536 (not-false (eqb (length high) 65536) (or_right l₀ h₀ b));
        some = positive len (eqb-false len 0 (or_left (eqb len 0) (not (eqb (len % entry_size) 0)) l));
        whole = eqb-true (len % entry_size) 0 (not-false (eqb (len % entry_size) 0) (or_right (eqb len 0) (not (eqb (len % entry_size) 0)) l));
        least = positive bitcycles (eqb-false bitcycles 0 (or_left (eqb bitcycles 0) (ltb 4096 bitcycles) c));
        most = ltb-false 4096 bitcycles (or_right (eqb bitcycles 0) (ltb 4096 bitcycles) c);
        power-on = rw z;
      }
