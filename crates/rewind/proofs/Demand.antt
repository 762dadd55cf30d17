-- Demand 3: any run from fresh is as promised.
use Prim.Native.Nat.{ℕ}
use mathlib.Core.List.{List, []}
use mathlib.Core.Path.{refl, ◌∙◌}
use native.Mathlib.Omega.{arith}
use Rattle.bench.specs.Calls.{Desk, desk, empty_bench}
use Rattle.machine.proofs.{FitLaws.power_on-fits, Ranges.power_on-ok}
use Rattle.rewind.proofs.{Fresh.Fresh, Fresh.fresh-facts, Rewinds.Inv, Rewinds.promised}
use Rattle.wram.specs.{Banks.banks, Sum.ram_sum}
use Rattle.rewind.specs.{Promise.Lent, Promise.Demand3, Run.state_of}

-- the desk of an accepted fresh
abbrev first : (low high entries : List ℕ) (len bitcycles : ℕ) → Desk
first low high entries len bitcycles = desk (empty_bench len bitcycles (ram_sum (banks low high))) low high entries

begin : (rom low high entries : List ℕ) (len bitcycles : ℕ) (L : Lent rom low high entries len) (F : Fresh low high len bitcycles)
    → let d = first low high entries len bitcycles in Inv rom L.rom-bytes L.rom-most len F.some F.whole (state_of d) d []
begin rom low high entries len bitcycles L F = record {
  sound =
      record {
        stands =
            record {
              good =
                  record {
                    fits = power_on-fits bitcycles (omega (arith, F.most));
                    ranges = power_on-ok bitcycles F.least F.most;
                    low-bytes = L.low-bytes;
                    low-length = F.low-length;
                    high-bytes = L.high-bytes;
                    high-length = F.high-length;
                  };
              long = L.entries-length;
              fresh = refl;
              slot_in = omega (arith, F.some, F.whole);
              kept_in = omega arith;
            };
        summed = refl;
      };
  trail = refl;
  holds = tt {0};
}

pub demand3 : Demand3
demand3 rom low high entries len bitcycles L accepted cs t =
    let F = fresh-facts low high len bitcycles accepted in
    rw F.power-on
    (promised rom L.rom-bytes L.rom-most len F.some F.whole (first low high entries len bitcycles) refl refl refl
    (λ other h. begin rom low high other len bitcycles (record { rom-bytes = L.rom-bytes; rom-most = L.rom-most; low-bytes = L.low-bytes; high-bytes = L.high-bytes; entries-length = h ∙ L.entries-length }) F) cs t)
