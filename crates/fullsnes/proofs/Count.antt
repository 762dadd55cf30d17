-- DAS counts the bytes of a general transfer, and 0 stands for 65,536: the byte that takes it to 0 is the last.
use Prim.Native.Nat.{ℕ, zero, suc, ◌+◌, ◌-◌, ◌%◌, ◌^◌, ◌≤◌, ◌<◌}
use mathlib.Core.Logic.{◌≢◌}
use mathlib.Core.Path.{◌≡◌, ap, ◌∙◌}
use native.Mathlib.Omega.{arith}
use borrow.Author.Tests.{eqb-true, eqb-false}
use lib.Dec.{eqb}
use lib.ListN.{length}
use Rattle.std.specs.Prelude.{None}
use Rattle.bus.specs.View.{channel_of, with_channel, with_mdmaen}
use Rattle.bus.specs.declared.access.Core.{Core}
use Rattle.common.proofs.TableLaws.{pick_elim, pick_case, pick-map}
use Rattle.common.specs.Pick.{pick}
use Rattle.dma.specs.General.{after_byte}
use Rattle.bus.proofs.Channels.{channel-put}
use Rattle.fullsnes.specs.Said.{bytes_of, das_after, Lasts}
use Rattle.hdma.specs.Engine.{DmaCore}
use Rattle.registers.specs.Groups.{with_dma_channel_das}
use Rattle.state.specs.Progress.{progress_at}
use Rattle.state.specs.declared.Dma.{Dma}
use Rattle.transfer.specs.Bits.{down}

-- what a byte leaves of a count, where i of n bytes were done before it
pub less : (n i : ℕ) → i < n → n ≤ 65536 → down 65536 ((n - i) % 65536) ≡ (n - (i + 1)) % 65536
less n i h most = omega (arith, h, most)

module _ (das : ℕ) (word : das < 65536) where
  -- as many as DAS says, or 65,536
  pub some : (0 < bytes_of das) × (bytes_of das ≤ 65536) × (bytes_of das % 65536 ≡ das)
  some =
      pick_case (λ n. (0 < n) × (n ≤ 65536) × (n % 65536 ≡ das)) (eqb das 0)
      (λ e. let z : das ≡ 0 = eqb-true das 0 e in (omega arith, omega arith, omega arith))
      (λ e. let z : das ≢ 0 = eqb-false das 0 e in (omega arith, omega arith, omega arith))

  -- after n of them so many are left
  left : (n : ℕ) → n ≤ bytes_of das → das_after n das ≡ (bytes_of das - n) % 65536
  unfolding das_after
  left zero h = omega (arith, some.2)
  left (suc n) h =
      let ih : das_after n das ≡ (bytes_of das - n) % 65536 = left n (omega arith) in
      ap (down 65536) ih ∙ less (bytes_of das) n (omega (arith, h)) some.1 ∙ omega arith

  pub lasts : Lasts das (bytes_of das)
  lasts = record {
    some = some.0;
    last = left (bytes_of das) (omega arith) ∙ omega arith;
    going = λ i p h e. let l : das_after i das ≡ (bytes_of das - i) % 65536 = left i (omega arith) in omega (arith, some.1);
  }

module _ (k : Core) (d : Dma) (ch u : ℕ) (whole : length k.io.channels ≡ 8) where
  abbrev next : ℕ
  next = down 65536 (channel_of k ch).das

  -- a byte takes DAS one down
  pub das-down : (channel_of (after_byte k d ch u).core ch).das ≡ next
  unfolding after_byte with_mdmaen channel_of
  das-down =
      let c = channel_of k ch in
      let e : (channel_of (with_channel k ch (with_dma_channel_das c next)) ch).das ≡ next = ap (λ x. x.das) (channel-put k ch (with_dma_channel_das c next) whole) in
      pick_elim (λ (x : DmaCore). (channel_of x.core ch).das ≡ next) (eqb next 0) e e

  -- and the transfer goes on exactly where it is not 0
  pub ends : (after_byte k d ch u).dma.progress ≡ pick (eqb next 0) None (progress_at ch ((u + 1) % 2 ^ 32))
  unfolding after_byte
  ends = pick-map (λ (x : DmaCore). x.dma.progress) (eqb next 0) _ _
