-- A byte moved, an HDMA unit and the bytes of a table: WMADD and work RAM go with their accesses.
use Prim.Native.Nat.{ℕ, zero, suc, ◌+◌, ◌*◌, ◌%◌}
use mathlib.Core.Bool.{Bool}
use mathlib.Core.List.{List}
use native.Mathlib.Omega.{arith}
use Rattle.common.proofs.TableLaws.{pick_elim}
use Rattle.bus.specs.{View.channel_of, View.with_core, World.World, World.read_at}
use Rattle.bus.specs.declared.access.Core.{Core}
use Rattle.registers.specs.declared.channel.DmaChannel.{DmaChannel}
use Rattle.transfer.proofs.BitLaws.{unit_len-le}
use Rattle.transfer.specs.Byte.{moved, step_a1t, trip_at, transfer_byte}
use Rattle.transfer.specs.{Pattern.unit_len, Table.table_read, Table.das_loaded}
use Rattle.transfer.specs.Unit.{unit_byte, unit_bytes, source_of, source_stored, unit_sent}
use Rattle.transfer.specs.declared.byte.Trip.{Trip}
use Rattle.followed.proofs.Accesses.{Follows, follows-none, follows_trans, follows-more, channel-follows, read-follows, write-follows}

module _ (rom : List ℕ) where
  pub moved-follows : (w : World) (t : Trip) → Follows 2 w (moved rom w t)
  unfolding moved
  moved-follows w t =
      let r = read_at rom w t.source.bank t.source.addr in
      follows_trans (read-follows rom w t.source.bank t.source.addr) (write-follows r.world t.target.bank t.target.addr r.byte)

  pub table-follows : (w : World) (ch : ℕ) → Follows 1 w (table_read rom w ch).world
  unfolding table_read
  table-follows w ch = follows_trans (channel-follows w ch _) (read-follows rom _ (channel_of w.core ch).a1b (channel_of w.core ch).a2a)

  pub das-follows : (w : World) (ch : ℕ) → Follows 2 w (das_loaded rom w ch)
  unfolding das_loaded
  das-follows w ch =
      let v = (table_read rom w ch).world in
      follows_trans (follows_trans (table-follows w ch) (table-follows v ch)) (channel-follows (table_read rom v ch).world ch _)

a1t-follows : (w : World) (ch dmap : ℕ) → Follows 0 w (with_core w (step_a1t w.core ch dmap))
unfolding step_a1t
a1t-follows w ch dmap = channel-follows w ch _

stored-follows : (w : World) (ch : ℕ) (ind : Bool) (addr : ℕ) → Follows 0 w (with_core w (source_stored w.core ch ind addr))
unfolding source_stored
stored-follows w ch ind addr = pick_elim (λ (k : Core). Follows 0 w (with_core w k)) ind (channel-follows w ch _) (channel-follows w ch _)

module _ (rom : List ℕ) where
  pub transfer-follows : (w : World) (ch u : ℕ) → Follows 2 w (transfer_byte rom w ch u)
  unfolding transfer_byte
  transfer-follows w ch u =
      follows_trans (moved-follows rom w (trip_at w ch u)) (a1t-follows (moved rom w (trip_at w ch u)) ch (channel_of w.core ch).dmap)

  -- n bytes of a unit
  pub units-follow : (c : DmaChannel) (bank addr n : ℕ) (w : World) → Follows (n * 2) w (unit_bytes rom c bank addr n w)
  unfolding unit_bytes unit_byte
  units-follow c bank addr zero w = follows-none w
  units-follow c bank addr (suc n) w =
      follows-more (suc n * 2) (follows_trans (units-follow c bank addr n w) (moved-follows rom (unit_bytes rom c bank addr n w) _)) (omega arith)

  pub sent-follows : (w : World) (ch : ℕ) (ind : Bool) → Follows 8 w (unit_sent rom w ch ind).world
  unfolding unit_sent
  sent-follows w ch ind =
      let c = channel_of w.core ch in
      let s = source_of c ind in
      let n = unit_len c.dmap in
      let v = unit_bytes rom c s.bank s.addr n w in
      let four = unit_len-le c.dmap in
      follows_trans (follows-more 8 (units-follow c s.bank s.addr n w) (omega arith)) (stored-follows v ch ind ((s.addr + n) % 65536))
