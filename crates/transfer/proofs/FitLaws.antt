-- A byte moved, an HDMA unit and the bytes of a table keep registers, bytes overwritten and banks in their widths.
use Rattle.std.proofs.Common.{ℕ, zero, suc, Bool, List, arith}
use Rattle.common.proofs.TableLaws.{pick_elim}
use Rattle.bus.proofs.FitLaws.{read_fits, write-fits, channel-fits, with_channel-fits, FitWorld, FitReading}
use Rattle.bus.specs.{View.channel_of, View.with_core, World.World}
use Rattle.bus.specs.declared.access.Core.{Core}
use Rattle.common.specs.Width.{Word, Bytes}
use Rattle.registers.specs.declared.channel.DmaChannel.{DmaChannel}
use Rattle.transfer.specs.{Bits.flag_of, Table.table_read, Table.das_loaded}
use Rattle.transfer.specs.Byte.{trip_of, moved, next_a1t, step_a1t, trip_at, transfer_byte}
use Rattle.transfer.specs.Pattern.{offset_of, unit_len, b_address}
use Rattle.transfer.specs.Unit.{unit_byte, unit_bytes, source_of, source_stored, unit_sent}
use Rattle.transfer.specs.declared.byte.Trip.{Trip}

trip-fits : (dmap bank bbad off : ℕ) {addr : ℕ} → Word addr → Word (trip_of dmap bank addr (b_address bbad off)).target.addr
unfolding trip_of
trip-fits dmap bank bbad off h = pick_elim (λ (t : Trip). Word t.target.addr) (flag_of dmap 0x80) h (omega arith)

a1t-fits : {w : World} (ch dmap : ℕ) → FitWorld w → FitWorld (with_core w (step_a1t w.core ch dmap))
unfolding step_a1t
a1t-fits {w} ch dmap f =
    let c = channel-fits f ch in
    let a = (channel_of w.core ch).a1t in
    let next : Word (next_a1t dmap a) = pick_elim Word (flag_of dmap 0x08) (omega (arith, c)) (pick_elim Word (flag_of dmap 0x10) (omega arith) (omega arith)) in
    with_channel-fits f ch (omega (arith, c, next))

stored-fits : {w : World} (ch : ℕ) (ind : Bool) {addr : ℕ} → FitWorld w → Word addr → FitWorld (with_core w (source_stored w.core ch ind addr))
unfolding source_stored
stored-fits {w} ch ind f h =
    let c = channel-fits f ch in
    pick_elim (λ (k : Core). FitWorld (with_core w k)) ind (with_channel-fits f ch (omega (arith, c))) (with_channel-fits f ch (omega (arith, c)))

module _ (rom : List ℕ) (g : Bytes rom) where
  moved-fits : {w : World} (t : Trip) → FitWorld w → Word t.target.addr → FitWorld (moved rom w t)
  unfolding moved
  moved-fits t f h =
      let r = read_fits f rom t.source.bank t.source.addr g in write-fits r.world t.target.bank h r.byte

  pub transfer-fits : {w : World} (ch u : ℕ) → FitWorld w → FitWorld (transfer_byte rom w ch u)
  unfolding transfer_byte
  transfer-fits {w} ch u f =
      let c = channel_of w.core ch in
      a1t-fits ch c.dmap (moved-fits (trip_at w ch u) f (trip-fits c.dmap c.a1b c.bbad (offset_of c.dmap u) (channel-fits f ch).a1t))

  units-fit : (c : DmaChannel) (bank addr n : ℕ) {w : World} → FitWorld w → FitWorld (unit_bytes rom c bank addr n w)
  unfolding unit_bytes unit_byte
  units-fit c bank addr zero f = f
  units-fit c bank addr (suc n) f =
      moved-fits _ (units-fit c bank addr n f) (trip-fits c.dmap bank c.bbad (offset_of c.dmap n) (omega arith))

  pub sent-fits : {w : World} (ch : ℕ) (ind : Bool) → FitWorld w → FitWorld (unit_sent rom w ch ind).world
  unfolding unit_sent
  sent-fits {w} ch ind f =
      let c = channel_of w.core ch in
      let s = source_of c ind in
      stored-fits ch ind (units-fit c s.bank s.addr (unit_len c.dmap) f) (omega arith)

  pub table_fits : {w : World} (ch : ℕ) → FitWorld w → FitReading (table_read rom w ch)
  unfolding table_read
  table_fits {w} ch f =
      let c = channel-fits f ch in
      read_fits (with_channel-fits f ch (omega (arith, c))) rom (channel_of w.core ch).a1b (channel_of w.core ch).a2a g

  pub das-fits : {w : World} (ch : ℕ) → FitWorld w → FitWorld (das_loaded rom w ch)
  unfolding das_loaded
  das-fits ch f =
      let r = table_fits ch f in
      let s = table_fits ch r.world in
      let c = channel-fits s.world ch in
      with_channel-fits s.world ch (omega (arith, c, r.byte, s.byte))
