-- What a byte moved, an HDMA unit and the bytes of a table add: at most 2 accesses a byte, 8 a unit, 1 a table byte.
use Rattle.std.proofs.Common.{ℕ, zero, suc, ◌+◌, ◌*◌, ◌%◌, ◌≤◌, Bool, List, arith}
use Rattle.common.proofs.TableLaws.{pick_elim}
use Rattle.bus.proofs.Adds.{Adds, adds_none, adds_trans, adds-more, channel-adds, read-adds, write-adds}
use Rattle.bus.specs.{View.channel_of, View.with_core, World.World, World.read_at}
use Rattle.bus.specs.declared.access.Core.{Core}
use Rattle.registers.specs.declared.channel.DmaChannel.{DmaChannel}
use Rattle.transfer.proofs.BitLaws.{unit_len-le}
use Rattle.transfer.specs.Byte.{moved, step_a1t, trip_at, transfer_byte}
use Rattle.transfer.specs.{Pattern.unit_len, Table.table_read, Table.das_loaded}
use Rattle.transfer.specs.Unit.{unit_byte, unit_bytes, source_of, source_stored, unit_sent}
use Rattle.transfer.specs.declared.byte.Trip.{Trip}

module _ (rom : List ℕ) where
  pub moved-adds : (w : World) (t : Trip) → Adds 2 1 w (moved rom w t)
  unfolding moved
  moved-adds w t =
      let r = read_at rom w t.source.bank t.source.addr in
      adds_trans (read-adds rom w t.source.bank t.source.addr) (write-adds r.world t.target.bank t.target.addr r.byte)

  pub table-adds : (w : World) (ch : ℕ) → Adds 1 0 w (table_read rom w ch).world
  unfolding table_read
  table-adds w ch = adds_trans (channel-adds w ch _) (read-adds rom _ (channel_of w.core ch).a1b (channel_of w.core ch).a2a)

  pub das-adds : (w : World) (ch : ℕ) → Adds 2 0 w (das_loaded rom w ch)
  unfolding das_loaded
  das-adds w ch =
      let v = (table_read rom w ch).world in
      adds_trans (adds_trans (table-adds w ch) (table-adds v ch)) (channel-adds (table_read rom v ch).world ch _)

a1t-adds : (w : World) (ch dmap : ℕ) → Adds 0 0 w (with_core w (step_a1t w.core ch dmap))
unfolding step_a1t
a1t-adds w ch dmap = channel-adds w ch _

stored-adds : (w : World) (ch : ℕ) (ind : Bool) (addr : ℕ) → Adds 0 0 w (with_core w (source_stored w.core ch ind addr))
unfolding source_stored
stored-adds w ch ind addr = pick_elim (λ (k : Core). Adds 0 0 w (with_core w k)) ind (channel-adds w ch _) (channel-adds w ch _)

module _ (rom : List ℕ) where
  pub transfer-adds : (w : World) (ch u : ℕ) → Adds 2 1 w (transfer_byte rom w ch u)
  unfolding transfer_byte
  transfer-adds w ch u =
      adds_trans (moved-adds rom w (trip_at w ch u)) (a1t-adds (moved rom w (trip_at w ch u)) ch (channel_of w.core ch).dmap)

  -- n bytes of a unit
  pub units-add : (c : DmaChannel) (bank addr n : ℕ) (w : World) → Adds (n * 2) n w (unit_bytes rom c bank addr n w)
  unfolding unit_bytes unit_byte
  units-add c bank addr zero w = adds_none w
  units-add c bank addr (suc n) w =
      adds-more (suc n * 2) (suc n) (adds_trans (units-add c bank addr n w) (moved-adds rom (unit_bytes rom c bank addr n w) _)) (omega arith) (omega arith)

  pub sent-adds : (w : World) (ch : ℕ) (ind : Bool) → Adds 8 4 w (unit_sent rom w ch ind).world
  unfolding unit_sent
  sent-adds w ch ind =
      let c = channel_of w.core ch in
      let s = source_of c ind in
      let n = unit_len c.dmap in
      let v = unit_bytes rom c s.bank s.addr n w in
      let four = unit_len-le c.dmap in
      adds_trans (adds-more 8 4 (units-add c s.bank s.addr n w) (omega arith) (omega arith)) (stored-adds v ch ind ((s.addr + n) % 65536))

  -- a unit has at most four bytes
  pub sent-bytes : (w : World) (ch : ℕ) (ind : Bool) → (unit_sent rom w ch ind).bytes ≤ 4
  unfolding unit_sent
  sent-bytes w ch ind = unit_len-le (channel_of w.core ch).dmap
