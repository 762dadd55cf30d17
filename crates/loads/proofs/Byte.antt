-- A byte of a load: the channel's next registers, the way that it went, and whether it was the channel's last.
use Prim.Native.Nat.{ℕ, ◌+◌, ◌-◌, ◌%◌, ◌^◌, ◌≤◌, ◌<◌}
use mathlib.Core.Bool.{Bool, true, false}
use mathlib.Core.List.{List, [], ◌∷◌}
use mathlib.Core.Path.{◌≡◌, refl, ap, ◌∙◌}
use native.Mathlib.Omega.{arith}
use lib.Dec.{eqb}
use lib.ListN.{length, get_or, set, length-set}
use lib.Seq.{get_or-set_same, set-set}
use Rattle.std.specs.Prelude.{None}
use Rattle.common.specs.{Pick.pick}
use Rattle.bus.proofs.Ports.{clear-memory}
use Rattle.bus.proofs.Seen.{Seen, seen, channel-seen, put-seen, put-log, masked-seen, masked-log}
use Rattle.bus.specs.Access.{no_log, firsts, accesses_of, push_access}
use Rattle.bus.specs.View.{channel_of, with_channel, mdmaen_of}
use Rattle.bus.specs.World.{World, read_at}
use Rattle.bus.specs.declared.access.{Core.Core}
use Rattle.dma.proofs.OneByte.{counted, das-moves}
use Rattle.dma.proofs.Steps.{busy, byte-moves}
use Rattle.dma.specs.Cycle.{Held, holding, updated}
use Rattle.dma.specs.General.{after_byte, on_banks}
use Rattle.fullsnes.proofs.{Count.less, Patterns.offset, Patterns.unit-length}
use Rattle.fullsnes.specs.Said.{pattern_of}
use Rattle.hdma.specs.Engine.{at}
use Rattle.hdma.specs.Engine.{DmaCore}
use Rattle.registers.specs.Channel.{no_channel}
use Rattle.registers.specs.Groups.{with_dma_channel_a1t, with_dma_channel_das, with_enables_mdmaen}
use Rattle.registers.specs.declared.{Enables.Enables, channel.DmaChannel.DmaChannel}
use Rattle.state.specs.Progress.{progress_at}
use Rattle.state.specs.declared.Dma.{Dma}
use Rattle.state.specs.declared.DmaState.TheVariants.{Dma as General}
use Rattle.transfer.proofs.Unseen.{moved-seen, moved-log}
use Rattle.transfer.specs.Bits.{flag_of, down, up, clear_bit}
use Rattle.transfer.specs.Byte.{trip_of, moved, moved_log, next_a1t, step_a1t, trip_at, transfer_byte}
use Rattle.transfer.specs.Pattern.{offset_of, b_address}
use Rattle.transfer.specs.declared.byte.Trip.{Trip}
use Rattle.loads.proofs.Phase.{Plan}
use Rattle.loads.proofs.Turn.{Turns, Turn, mask, working}
use Rattle.loads.specs.Load.{channel_at, many, a1t_at, port_at, way_at, pair, carried}
use Rattle.loads.specs.Promise.{Clear}

-- A1T after one byte more
a1t-step : (c : DmaChannel) (i : ℕ) → i < 65536 → next_a1t c.dmap (a1t_at c i) ≡ a1t_at c (i + 1)
a1t-step c i h = go c.a1t (flag_of c.dmap 0x08) (flag_of c.dmap 0x10)
  where
    go : (a : ℕ) (f b : Bool) → (let x = pick f a (pick b ((a + 65536 - i) % 65536) ((a + i) % 65536)) in pick f x (pick b (down 65536 x) (up 65536 x)))
        ≡ pick f a (pick b ((a + 65536 - (i + 1)) % 65536) ((a + (i + 1)) % 65536))
    go a true b = refl
    go a false true = omega (arith, h)
    go a false false = omega arith

-- the accesses of one byte
pub moved-pair : (t : Trip) (v : ℕ) → accesses_of (moved_log t v) ≡ pair t v
unfolding moved_log push_access firsts
moved-pair t v = refl

module _ (rom : List ℕ) (cs : List DmaChannel) (d : Dma) (ch : ℕ) (eight : length cs ≡ 8) (low : ch < 8) where
  abbrev c : DmaChannel
  c = channel_at cs ch

  abbrev n : ℕ
  n = many c

  -- the channel after i of its bytes
  abbrev pub gone : ℕ → DmaChannel
  gone i = with_dma_channel_das (with_dma_channel_a1t c (a1t_at c i)) ((n - i) % 65536)

  -- what the unit then sees
  abbrev pub sight : ℕ → Enables → Seen
  sight i e = record { channels = set cs ch (gone i); enables = e }

  -- what byte i leaves, by whether it was the last
  abbrev pub passed : Enables → ℕ → Bool → Plan
  passed e i done =
      pick done (working (sight (i + 1) (with_enables_mdmaen e (clear_bit e.mdmaen ch))) d General 7 None)
      (working (sight (i + 1) e) d General 7 (progress_at ch (i + 1)))

  own : ch % 8 ≡ ch
  own = omega (arith, low)

  module _ (e : Enables) (i : ℕ) (before : i < n) (most : n ≤ 65536) (clear : Clear c) where
    -- the channel as the unit sees it
    sees-own : (k : Core) → seen k.io ≡ sight i e → channel_of k ch ≡ gone i
    sees-own k h =
        channel-seen k ch
        ∙ ap (λ (x : Seen). get_or x.channels (ch % 8) no_channel) h
        ∙ ap (λ (j : ℕ). get_or (set cs ch (gone i)) j no_channel) own
        ∙ get_or-set_same cs ch (gone i) no_channel (omega (arith, eight, low))

    -- and with other registers there
    sees-put : (k : Core) (x : DmaChannel) → seen k.io ≡ sight i e → seen (with_channel k ch x).io ≡ record { channels = set cs ch x; enables = e }
    sees-put k x h =
        put-seen k ch x
        ∙ ap (λ (y : Seen). record { channels = set y.channels (ch % 8) x; enables = y.enables }) h
        ∙ ap (λ (j : ℕ). record { channels = set (set cs ch (gone i)) j x; enables = e }) own
        ∙ ap (λ (l : List DmaChannel). record { channels = l; enables = e }) (set-set cs ch (gone i) x)

    way : (w : World) → seen w.core.io ≡ sight i e → trip_at w ch i ≡ way_at c i
    way w h =
        ap (λ (x : DmaChannel). trip_of x.dmap x.a1b x.a1t (b_address x.bbad (offset_of x.dmap i))) (sees-own w.core h)
        ∙ ap (λ (o : ℕ). trip_of c.dmap c.a1b (a1t_at c i) (b_address c.bbad o))
        (offset c.dmap i ∙ ap (λ (k : ℕ). get_or (pattern_of c.dmap) (i % k) 0) (unit-length c.dmap))

    module _ (w : World) (h : seen w.core.io ≡ sight i e) (l : w.core.log ≡ no_log) where
      abbrev v : World
      v = moved rom w (trip_at w ch i)

      v-seen : seen v.core.io ≡ sight i e
      v-seen =
          ap (λ (t : Trip). seen (moved rom w t).core.io) (way w h)
          ∙ moved-seen rom w c.dmap c.a1b (a1t_at c i) (port_at c i) (omega arith) (omega arith) (clear-memory c.a1b (a1t_at c i) (clear i before))
          ∙ h

      abbrev byte : ℕ
      byte = (read_at rom w (way_at c i).source.bank (way_at c i).source.addr).byte

      v-log : accesses_of v.core.log ≡ pair (way_at c i) byte
      v-log = ap (λ (t : Trip). accesses_of (moved rom w t).core.log) (way w h) ∙ ap accesses_of (moved-log rom w (way_at c i) l) ∙ moved-pair (way_at c i) byte

      v-eight : length v.core.io.channels ≡ 8
      v-eight = ap (λ (x : Seen). length x.channels) v-seen ∙ length-set cs ch (gone i) ∙ eight

      -- the channel with A1T stepped, DAS still as it was
      abbrev x : DmaChannel
      x = with_dma_channel_das (with_dma_channel_a1t c (a1t_at c (i + 1))) ((n - i) % 65536)

      a1t-moved : (transfer_byte rom w ch i).core ≡ with_channel v.core ch x
      unfolding transfer_byte step_a1t
      a1t-moved =
          (λ j. with_channel v.core ch (with_dma_channel_a1t (sees-own v.core v-seen j) (next_a1t (sees-own w.core h j).dmap (sees-own v.core v-seen j).a1t)))
          ∙ ap (λ (a : ℕ). with_channel v.core ch (with_dma_channel_a1t (gone i) a)) (a1t-step c i (omega (arith, before, most)))

      abbrev u : Dma
      u = busy d General 0 (progress_at ch i)

      abbrev t : World
      t = transfer_byte rom w ch i

      fewer : down 65536 ((n - i) % 65536) ≡ (n - (i + 1)) % 65536
      fewer = less n i before most

      -- the unit and what it sees, by whether it was the last byte
      abbrev leaves : Bool → DmaCore
      leaves done = counted v.core ch v-eight u i x done

      turned : (clock : ℕ) → updated rom (at w u) clock ≡ holding (on_banks t (leaves (eqb ((n - (i + 1)) % 65536) 0)))
      turned clock =
          byte-moves rom w d clock ch i
          ∙ ap (λ (k : Core). holding (on_banks t (after_byte k u ch i))) a1t-moved
          ∙ ap (λ (m : DmaCore). holding (on_banks t m)) (das-moves v.core ch v-eight u i x)
          ∙ ap (λ (k : ℕ). holding (on_banks t (leaves (eqb k 0)))) fewer

      -- the log is the byte's, and the registers are those of the channel
      leaves-log : (done : Bool) → (leaves done).core.log ≡ v.core.log
      leaves-log true = masked-log _ (clear_bit (mdmaen_of v.core) ch) ∙ put-log v.core ch (with_dma_channel_das x (down 65536 x.das))
      leaves-log false = put-log v.core ch (with_dma_channel_das x (down 65536 x.das))

      leaves-seen : (done : Bool) → seen (leaves done).core.io ≡ (passed e i done).sees
      leaves-seen true =
          masked-seen _ (clear_bit (mdmaen_of v.core) ch)
          ∙ ap (λ (y : Seen). record { channels = y.channels; enables = with_enables_mdmaen y.enables (clear_bit (mdmaen_of v.core) ch) }) (sees-put v.core (with_dma_channel_das x (down 65536 x.das)) v-seen)
          ∙ (λ j. record { channels = set cs ch (with_dma_channel_das x (fewer j)); enables = with_enables_mdmaen e (clear_bit (mask v (sight i e) v-seen j) ch) })
      leaves-seen false =
          sees-put v.core (with_dma_channel_das x (down 65536 x.das)) v-seen
          ∙ (λ j. record { channels = set cs ch (with_dma_channel_das x (fewer j)); enables = e })

      leaves-dma : (done : Bool) → (leaves done).dma ≡ (passed e i done).dma
      leaves-dma true = refl
      leaves-dma false = let k : (i + 1) % 2 ^ 32 ≡ i + 1 = omega (arith, before, most) in ap (λ (j : ℕ). busy d General 7 (progress_at ch j)) k

      turns : (clock : ℕ) (done : Bool) → eqb ((n - (i + 1)) % 65536) 0 ≡ done → Turns (updated rom (at w u) clock) (passed e i done) (way_at c i ∷ [])
      unfolding carried
      turns clock done q =
          let r = turned clock ∙ ap (λ (b : Bool). holding (on_banks t (leaves b))) q in
          record {
            held = ap (λ (y : Held). y.held) r;
            sees = ap (λ (y : Held). seen y.after.world.core.io) r ∙ leaves-seen done;
            dma = ap (λ (y : Held). y.after.dma) r ∙ leaves-dma done;
            bytes = byte ∷ [];
            number = refl;
            made = ap (λ (y : Held). accesses_of y.after.world.core.log) r ∙ ap accesses_of (leaves-log done) ∙ v-log;
          }

    -- byte i in one cycle
    pub byte-turn : (clock : ℕ) (done : Bool) → eqb ((n - (i + 1)) % 65536) 0 ≡ done
        → Turn rom clock (working (sight i e) d General 0 (progress_at ch i)) (passed e i done) (way_at c i ∷ [])
    byte-turn clock done q w h l = turns w h l clock done q
