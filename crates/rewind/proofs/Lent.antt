-- A desk on which nothing lent is refused: what document 01's table has looked at, of a machine and bytes of their types.
use Prim.Native.Nat.{ℕ, ◌%◌, ◌≤◌, ◌<◌}
use mathlib.Core.Bool.{false, not, ◌||◌}
use mathlib.Core.List.{List}
use mathlib.Core.Path.{◌≡◌, refl, sym}
use borrow.Author.Tests.{eqb-true, eqb-false, leb-false, ltb-false, not-false}
use lib.Dec.{eqb, leb, ltb}
use lib.ListN.{length}
use Rattle.bench.specs.Calls.{Desk, lent_of}
use Rattle.common.specs.Pick.{pick}
use Rattle.layout.specs.Layout.{entry_size, capacity}
use Rattle.ranges.proofs.MachineLaws.{ranges}
use Rattle.ranges.specs.Machine.{machine_ok}
use Rattle.rewind.proofs.{Calls.Stands, Unrefused.unpicked, Unrefused.or_left, Unrefused.or_right, Unrefused.positive}
use Rattle.rewind.specs.Run.{TypedDesk}
use Rattle.ring.specs.Refusal.{record_off, rom_off, bench_off, lent_number}

-- what then holds of the desk, and of the lengths of record and ROM
pub record Accepted (rom : List ℕ) (d : Desk) : Type 0 where
  pub stands : Stands (length d.entries) d
  pub some : 0 < length d.entries
  pub whole : length d.entries % entry_size ≡ 0
  pub most : length rom ≤ 4194304

pub stands-lent : (rom : List ℕ) (d : Desk) → TypedDesk rom d → lent_of d (length rom) ≡ 0 → Accepted rom d
unfolding lent_number
stands-lent rom d t h =
    let b = d.bench in
    let len = length d.entries in
    let l₀ = not (eqb (length d.ram.low) 65536) in
    let h₀ = not (eqb (length d.ram.high) 65536) in
    let z₀ = eqb len 0 in
    let p₀ = not (eqb (len % entry_size) 0) in
    let o₀ = not (eqb len b.length) in
    let m₀ = not (machine_ok b.machine) in
    let s₀ = leb (capacity b.length) b.slot in
    let k₀ = ltb (capacity b.length) b.kept in
    let banks : (l₀ || h₀) ≡ false = unpicked (l₀ || h₀) 0 (pick (record_off len b.length) 2 (pick (rom_off (length rom)) 3 (pick (bench_off b) 4 0))) h in
    let h₁ : ◌≡◌ {A = ℕ} (pick (record_off len b.length) 2 (pick (rom_off (length rom)) 3 (pick (bench_off b) 4 0))) 0 = rw banks at h in
    let size : (z₀ || p₀ || o₀) ≡ false = unpicked (z₀ || p₀ || o₀) 1 (pick (rom_off (length rom)) 3 (pick (bench_off b) 4 0)) h₁ in
    let h₂ : ◌≡◌ {A = ℕ} (pick (rom_off (length rom)) 3 (pick (bench_off b) 4 0)) 0 = rw size at h₁ in
    let long : rom_off (length rom) ≡ false = unpicked (rom_off (length rom)) 2 (pick (bench_off b) 4 0) h₂ in
    let h₃ : ◌≡◌ {A = ℕ} (pick (bench_off b) 4 0) 0 = rw long at h₂ in
    let bench : (m₀ || s₀ || k₀) ≡ false = unpicked (m₀ || s₀ || k₀) 3 0 h₃ in
    let same : len ≡ b.length = eqb-true len b.length (not-false (eqb len b.length) (or_right (z₀ || p₀) o₀ size)) in
    record {
      stands =
          record {
            good =
                record {
                  fits = t.machine;
                  ranges = ranges b.machine (not-false (machine_ok b.machine) (or_left m₀ s₀ (or_left (m₀ || s₀) k₀ bench)));
                  low-bytes = t.low;
                  low-length = eqb-true _ _ (not-false (eqb (length d.ram.low) 65536) (or_left l₀ h₀ banks));
                  high-bytes = t.high;
                  high-length = eqb-true _ _ (not-false (eqb (length d.ram.high) 65536) (or_right l₀ h₀ banks));
                };
            long = refl;
            fresh = sym same;
            slot_in = rw same (leb-false (capacity b.length) b.slot (or_right m₀ s₀ (or_left (m₀ || s₀) k₀ bench)));
            kept_in = rw same (ltb-false (capacity b.length) b.kept (or_right (m₀ || s₀) k₀ bench));
          };
      some = positive len (eqb-false len 0 (or_left z₀ p₀ (or_left (z₀ || p₀) o₀ size)));
      whole = eqb-true _ _ (not-false (eqb (len % entry_size) 0) (or_right z₀ p₀ (or_left (z₀ || p₀) o₀ size)));
      most = ltb-false 4194304 (length rom) long;
    }
