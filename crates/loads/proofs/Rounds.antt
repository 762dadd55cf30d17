-- Channel after channel, lowest first, until MDMAEN is 0.
use Prim.Native.Nat.{ℕ, ◌+◌, ◌-◌, ◌*◌, ◌%◌, ◌^◌, ◌<◌}
use mathlib.Core.Bool.{Bool, true, false}
use mathlib.Core.List.{List, [], ◌∷◌, ◌++◌, map, nil≢cons, head-eq_of_cons-eq, tail-eq_of_cons-eq}
use mathlib.Core.Logic.{◌≢◌}
use mathlib.Core.Path.{◌≡◌, refl, sym, ap, subst, ◌∙◌}
use native.Mathlib.Omega.{arith}
use borrow.Author.Tests.{eqb-true, eqb-false, eq-eqb, ne_eqb}
use lib.Bits.{and_le_l}
use lib.Dec.{T, eqb}
use lib.ListN.{length, set, length-set}
use lib.Seq.{get_or-set_same, get_or-set_other}
use Rattle.std.specs.Prelude.{None}
use Rattle.common.proofs.RangeLaws.{below-eight}
use Rattle.common.specs.{All.AllOf, Pick.pick}
use Rattle.registers.specs.Channel.{no_channel}
use Rattle.registers.specs.Groups.{with_enables_mdmaen}
use Rattle.registers.specs.declared.{Enables.Enables, channel.DmaChannel.DmaChannel}
use Rattle.state.specs.declared.{Dma.Dma, DmaState.TheVariants.Dma as General}
use Rattle.transfer.proofs.BitLaws.{lowest_lt}
use Rattle.transfer.specs.Bits.{lowest, clear_bit}
use Rattle.loads.proofs.Channel.{Fit, channel}
use Rattle.loads.proofs.Mask.{selected-steps, bit-steps, bit-lowest}
use Rattle.loads.proofs.Phase.{Plan, Phase, join, stand, renamed}
use Rattle.loads.proofs.Turn.{working}
use Rattle.loads.specs.Load.{bit, selected_in, selected, channel_at, many, ways_to, ways_of, cycles_of, finished}

-- two ways to look channels up that agree where the bit is set
selected_agree : (f g : ℕ → DmaChannel) (mask : ℕ) (l : List ℕ) → ((j : ℕ) → bit mask j ≡ true → f j ≡ g j) → map f (selected_in mask l) ≡ map g (selected_in mask l)
unfolding selected_in
selected_agree f g mask [] h = refl
selected_agree f g mask (j ∷ l) h = go (bit mask j) refl (selected_agree f g mask l h)
  where
    go : (b : Bool) → bit mask j ≡ b → map f (selected_in mask l) ≡ map g (selected_in mask l) → map f (pick b (j ∷ selected_in mask l) (selected_in mask l)) ≡ map g (pick b (j ∷ selected_in mask l) (selected_in mask l))
    go true e ih = λ i. h j e i ∷ ih i
    go false e ih = ih

-- mask 0 selects none
none : (j : ℕ) → j < 8 → bit 0 j ≡ false
none = below-eight (λ j. bit 0 j ≡ false) refl refl refl refl refl refl refl refl

-- a mask that selects a channel is not 0
any : (m : ℕ) {j : ℕ} {chs : List ℕ} → selected m ≡ j ∷ chs → 0 < m
unfolding selected_in
any m h = go (eqb m 0) refl
  where
    go : (b : Bool) → eqb m 0 ≡ b → 0 < m
    go true q = absurd (nil≢cons (sym (ap selected (eqb-true m 0 q)) ∙ h))
    go false q = let z : m ≢ 0 = eqb-false m 0 q in omega (arith, z)

clash : true ≡ false → ⊥
clash x = subst T x tt

module _ (rom : List ℕ) (d : Dma) where
  -- the unit before it chooses, or closes
  abbrev pub ready : List DmaChannel → Enables → Plan
  ready cs e = working (record { channels = cs; enables = e }) d General 0 None

  -- all of the channels cs that the enables e select
  pub record Round (cs : List DmaChannel) (e : Enables) (chs : List ℕ) : Type 0 where
    pub after : List DmaChannel
    pub long : length after ≡ 8
    pub phase : Phase rom (ready cs e) (cycles_of (map (channel_at cs) chs)) (ready after (with_enables_mdmaen e 0)) (ways_of (map (channel_at cs) chs))
    pub left : (j : ℕ) → j < 8 → channel_at after j ≡ pick (bit e.mdmaen j) (finished (channel_at cs j)) (channel_at cs j)

  module _ (cs : List DmaChannel) (e : Enables) (eight : length cs ≡ 8) (byte : e.mdmaen < 256) where
    abbrev m : ℕ
    m = e.mdmaen

    -- no channel selected: MDMAEN is 0
    empty : [] ≡ selected m → m ≡ 0
    empty h = go (eqb m 0) refl
      where
        go : (b : Bool) → eqb m 0 ≡ b → m ≡ 0
        go true q = eqb-true m 0 q
        go false q = let z : m ≢ 0 = eqb-false m 0 q in absurd (nil≢cons (h ∙ selected-steps m (omega (arith, z)) byte))

    ended : m ≡ 0 → Round cs e []
    unfolding cycles_of ways_of
    ended z = record {
      after = cs;
      long = eight;
      phase = renamed rom refl (ap (λ (k : ℕ). ready cs (with_enables_mdmaen e k)) z) refl (stand rom (ready cs e));
      left = λ j l. ap (λ (b : Bool). pick b (finished (channel_at cs j)) (channel_at cs j)) (sym (ap (λ (k : ℕ). bit k j) z ∙ none j l));
    }

    module _ (some : 0 < m) where
      abbrev ch : ℕ
      ch = lowest m

      low : ch < 8
      low = lowest_lt m some byte

      -- the channels with the lowest finished, and the mask without it
      abbrev next : List DmaChannel
      next = set cs ch (finished (channel_at cs ch))

      abbrev rest : Enables
      rest = with_enables_mdmaen e (clear_bit m ch)

      ours : (j : ℕ) → j ≡ ch → channel_at next j ≡ finished (channel_at cs j)
      ours j q = rw q (get_or-set_same cs ch (finished (channel_at cs ch)) no_channel (omega (arith, low, eight)))

      other : (j : ℕ) → j ≢ ch → channel_at next j ≡ channel_at cs j
      other j q = get_or-set_other cs ch j (finished (channel_at cs ch)) no_channel q

      -- bit j of that mask
      gone : (j : ℕ) → j < 8 → j ≡ ch → bit (clear_bit m ch) j ≡ false
      gone j l q = bit-steps m some byte j l ∙ ap (λ (b : Bool). pick b false (bit m j)) (eq-eqb j ch q)

      stays : (j : ℕ) → j < 8 → j ≢ ch → bit (clear_bit m ch) j ≡ bit m j
      stays j l q = bit-steps m some byte j l ∙ ap (λ (b : Bool). pick b false (bit m j)) (ne_eqb j ch q)

      -- the others look the same afterwards
      kept : map (channel_at next) (selected (clear_bit m ch)) ≡ map (channel_at cs) (selected (clear_bit m ch))
      kept = selected_agree (channel_at next) (channel_at cs) (clear_bit m ch) _ (λ j h. other j (λ q. clash (sym h ∙ ap (bit (clear_bit m ch)) q ∙ gone ch low refl)))

      left-then : (r : List DmaChannel) (j : ℕ) → j < 8 → channel_at r j ≡ pick (bit (clear_bit m ch) j) (finished (channel_at next j)) (channel_at next j)
          → channel_at r j ≡ pick (bit m j) (finished (channel_at cs j)) (channel_at cs j)
      left-then r j l h = go (eqb j ch) refl
        where
          go : (b : Bool) → eqb j ch ≡ b → channel_at r j ≡ pick (bit m j) (finished (channel_at cs j)) (channel_at cs j)
          go true q =
              let k : j ≡ ch = eqb-true j ch q in
              h ∙ ap (λ (b : Bool). pick b (finished (channel_at next j)) (channel_at next j)) (gone j l k) ∙ ours j k
              ∙ ap (λ (b : Bool). pick b (finished (channel_at cs j)) (channel_at cs j)) (sym (ap (bit m) k ∙ bit-lowest m some byte))
          go false q =
              let k : j ≢ ch = eqb-false j ch q in
              h ∙ (λ i. pick (stays j l k i) (finished (other j k i)) (other j k i))

      more : Fit (channel_at cs ch) → Round next rest (selected (clear_bit m ch)) → Round cs e (ch ∷ selected (clear_bit m ch))
      unfolding cycles_of ways_of
      more fit r =
          let c = channel_at cs ch in
          let sel = selected (clear_bit m ch) in
          let one = channel rom cs d ch eight low e fit refl (ne_eqb m 0 (λ q. omega (arith, some, q))) in
          record {
            after = r.after;
            long = r.long;
            phase = renamed rom (ap (λ (l : List DmaChannel). 8 + 8 * many c + cycles_of l) kept) refl (ap (λ (l : List DmaChannel). ways_to c (many c) ++ ways_of l) kept)
                (join rom (8 + 8 * many c) (cycles_of (map (channel_at next) sel)) (ways_to c (many c)) (ways_of (map (channel_at next) sel)) one r.phase);
            left = λ j l. left-then r.after j l (r.left j l);
          }

  pub rounds : (chs : List ℕ) (cs : List DmaChannel) (e : Enables) → length cs ≡ 8 → e.mdmaen < 256 → selected e.mdmaen ≡ chs → AllOf Fit (map (channel_at cs) chs) → Round cs e chs
  rounds [] cs e eight byte h fits = ended cs e eight byte (empty cs e eight byte (sym h))
  rounds (j ∷ chs) cs e eight byte h fits =
      let m = e.mdmaen in
      let some = any m h in
      let ch = lowest m in
      let first : j ∷ chs ≡ ch ∷ selected (clear_bit m ch) = sym h ∙ selected-steps m some byte in
      let here : j ≡ ch = head-eq_of_cons-eq first in
      let there : chs ≡ selected (clear_bit m ch) = tail-eq_of_cons-eq first in
      let n = next cs e eight byte some in
      let fit : Fit (channel_at cs ch) = subst (λ (k : ℕ). Fit (channel_at cs k)) here fits.0 in
      let same : map (channel_at cs) chs ≡ map (channel_at n) chs = sym (subst (λ (l : List ℕ). map (channel_at n) l ≡ map (channel_at cs) l) (sym there) (kept cs e eight byte some)) in
      let less : clear_bit m ch < 256 = omega (arith, byte, and_le_l m (255 - 1 * 2 ^ (ch % 8) % 2 ^ 8)) in
      let r = rounds chs n (rest cs e eight byte some) (length-set cs ch (finished (channel_at cs ch)) ∙ eight) less (sym there) (subst (AllOf Fit) same fits.1) in
      subst (Round cs e) (sym first) (more cs e eight byte some fit (subst (Round n (rest cs e eight byte some)) there r))
