-- A whole channel: 8 cycles to choose it, and 8 for each byte.
use Prim.Native.Nat.{ℕ, zero, suc, ◌+◌, ◌-◌, ◌*◌, ◌%◌, ◌≤◌, ◌<◌}
use mathlib.Core.Bool.{Bool, true, false}
use mathlib.Core.List.{List, [], ◌∷◌}
use mathlib.Core.Path.{◌≡◌, refl, sym, ap, ◌∙◌}
use native.Mathlib.Omega.{arith}
use borrow.Author.Tests.{eq-eqb, ne_eqb}
use lib.Dec.{eqb}
use lib.ListN.{length, set}
use lib.Seq.{set-get_or}
use Rattle.std.specs.Prelude.{Option, None}
use Rattle.common.specs.{Pick.pick, Width.Word}
use Rattle.bus.proofs.Seen.{Seen}
use Rattle.fullsnes.proofs.Count.{some}
use Rattle.registers.specs.{Channel.no_channel, Fit.FitChannel}
use Rattle.registers.specs.Groups.{with_dma_channel_a1t, with_dma_channel_das, with_enables_mdmaen}
use Rattle.registers.specs.declared.{Enables.Enables, channel.DmaChannel.DmaChannel}
use Rattle.state.specs.Progress.{progress_at}
use Rattle.state.specs.declared.{Dma.Dma, DmaProgress.DmaProgress}
use Rattle.state.specs.declared.DmaState.TheVariants.{Dma as General}
use Rattle.transfer.specs.Bits.{flag_of, lowest, clear_bit}
use Rattle.loads.proofs.Byte.{gone, sight, passed, byte-turn}
use Rattle.loads.proofs.Phase.{Plan, Phase, join, stand, renamed}
use Rattle.loads.proofs.Turn.{step, working, waits-out, choosing}
use Rattle.loads.specs.Load.{channel_at, many, a1t_at, way_at, ways_to, finished}
use Rattle.loads.specs.Promise.{Clear}

-- what is asked of a channel: its registers are in their widths, and its A addresses are clear of the machine's registers
pub record Fit (c : DmaChannel) : Type 0 where
  pub widths : FitChannel c
  pub clear : Clear c

-- before the first byte
a1t-first : (c : DmaChannel) → Word c.a1t → a1t_at c 0 ≡ c.a1t
a1t-first c h = go c.a1t h (flag_of c.dmap 0x08) (flag_of c.dmap 0x10)
  where
    go : (a : ℕ) → Word a → (f b : Bool) → pick f a (pick b ((a + 65536 - 0) % 65536) ((a + 0) % 65536)) ≡ a
    go a h true b = refl
    go a h false true = omega (arith, h)
    go a h false false = omega (arith, h)

module _ (rom : List ℕ) (cs : List DmaChannel) (d : Dma) (ch : ℕ) (eight : length cs ≡ 8) (low : ch < 8) (e : Enables) (fit : Fit (channel_at cs ch)) where
  abbrev c : DmaChannel
  c = channel_at cs ch

  abbrev n : ℕ
  n = many c

  least : 0 < n
  least = (some c.das fit.widths.das).0

  most : n ≤ 65536
  most = (some c.das fit.widths.das).1

  -- the unit with i bytes done
  abbrev after : ℕ → Plan
  after i = working (sight rom cs d ch eight low i e) d General 0 (progress_at ch i)

  abbrev cleared : Enables
  cleared = with_enables_mdmaen e (clear_bit e.mdmaen ch)

  -- with none done, as it was
  first : sight rom cs d ch eight low 0 e ≡ record { channels = cs; enables = e }
  first =
      let das : (n - 0) % 65536 ≡ c.das = omega (arith, (some c.das fit.widths.das).2) in
      (λ i. record { channels = set cs ch (with_dma_channel_das (with_dma_channel_a1t c (a1t-first c fit.widths.a1t i)) (das i)); enables = e })
      ∙ ap (λ (l : List DmaChannel). record { channels = l; enables = e }) (set-get_or cs ch no_channel)

  -- byte i and the cycles up to the next action
  byte : (i : ℕ) (done : Bool) → i < n → eqb ((n - (i + 1)) % 65536) 0 ≡ done → {p : Option DmaProgress} {s : Seen}
      → passed rom cs d ch eight low e i done ≡ working s d General 7 p → Phase rom (after i) 8 (working s d General 0 p) (way_at c i ∷ [])
  byte i done h q {p} {s} r =
      join rom 1 7 (way_at c i ∷ []) []
      (renamed rom refl r refl (step rom (after i) (passed rom cs d ch eight low e i done) (way_at c i ∷ []) (λ clock. byte-turn rom cs d ch eight low e i h most fit.clear clock done q)))
      (waits-out rom s d General p 7)

  -- i bytes, not all
  bytes : (i : ℕ) → i < n → Phase rom (after 0) (8 * i) (after i) (ways_to c i)
  unfolding ways_to
  bytes zero h = stand rom (after 0)
  bytes (suc i) h =
      let k : i + 1 ≡ suc i = omega arith in
      let q = ne_eqb ((n - (i + 1)) % 65536) 0 (λ z. omega (arith, h, most, z)) in
      renamed rom (omega arith) (ap after k) refl
      (join rom (8 * i) 8 (ways_to c i) (way_at c i ∷ []) (bytes i (omega (arith, h))) (byte i false (omega (arith, h)) q refl))

  -- all of them
  pub channel : lowest e.mdmaen ≡ ch → eqb e.mdmaen 0 ≡ false
      → Phase rom (working (record { channels = cs; enables = e }) d General 0 None) (8 + 8 * n)
      (working (record { channels = set cs ch (finished c); enables = cleared }) d General 0 None) (ways_to c n)
  unfolding ways_to
  channel own q =
      let k = n - 1 in
      let s : Seen = record { channels = cs; enables = e } in
      let one : k + 1 ≡ n = omega (arith, least) in
      let whole : suc k ≡ n = omega (arith, least) in
      let z : (n - (k + 1)) % 65536 ≡ 0 = omega (arith, least) in
      let ended : (n - n) % 65536 ≡ 0 = omega arith in
      let start : Plan = working s d General 0 (progress_at ch 0) in
      let choice = renamed rom refl ((λ i. working (sym first i) d General 0 (progress_at (own i) 0))) refl (choosing rom s d q) in
      let rest = join rom (8 * k) 8 (ways_to c k) (way_at c k ∷ []) (bytes k (omega (arith, least))) (byte k true (omega (arith, least)) (eq-eqb _ _ z) refl) in
      renamed rom (omega (arith, least))
      ((λ i. working (record { channels = set cs ch (gone rom cs d ch eight low (one i)); enables = cleared }) d General 0 None)
      ∙ (λ i. working (record { channels = set cs ch (with_dma_channel_das (with_dma_channel_a1t c (a1t_at c n)) (ended i)); enables = cleared }) d General 0 None))
      (ap (ways_to c) whole) (join rom 8 (8 * k + 8) [] (ways_to c (suc k)) choice rest)
