use Prim.Native.Nat.{◌*◌}
use mathlib.Core.Path.{refl}
use borrow.Author.Tests.{lt-ltb, le-ltb}
use lib.ListN.{length, replicate}
use Rattle.entry.proofs.{Slots.room, Slots.taken}
use Rattle.entry.specs.Slot.{read_slot}
use Rattle.layout.specs.Layout.{entry_size, capacity}
use Rattle.entry.proofs.slot_bytes.Goals as goal

pub returns-then-slot-capacity : goal.returns-then-slot-capacity
unfolding read_slot
returns-then-slot-capacity c =
    let within = rw c.capacity.ensures at c.if-slot-capacity.true in
    rw (lt-ltb c.args.slot (capacity (length c.args.«record».now)) within)
    (taken c.args.«record».now (replicate entry_size 0) c.put.new.dst (c.args.slot * entry_size) entry_size refl
    (room entry_size c.args.slot c.args.«record».now within) c.put.ensures)

pub returns-else-slot-capacity : goal.returns-else-slot-capacity
unfolding read_slot
returns-else-slot-capacity c =
    rw (le-ltb c.args.slot (capacity (length c.args.«record».now)) (rw c.capacity.ensures at c.if-slot-capacity.false))
