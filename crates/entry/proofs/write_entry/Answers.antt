use Rattle.entry.proofs.{Slots.slot-laid, Slots.slot-left}
use Rattle.entry.specs.Entry.{written}
use Rattle.image.proofs.Size.{entry-size}
use Rattle.image.specs.Encode.{encode}
use Rattle.layout.specs.Layout.{entry_size}
use Rattle.entry.proofs.write_entry.Goals as goal

pub returns-then-slot-capacity : goal.returns-then-slot-capacity
unfolding written
returns-then-slot-capacity c =
    slot-laid entry_size c.args.slot (encode c.args.m c.args.olds) c.args.«record».now c.put_fields.new.part (entry-size c.args.m c.args.olds)
    (rw c.capacity.ensures at c.if-slot-capacity.true) c.put_fields.ensures

pub returns-else-slot-capacity : goal.returns-else-slot-capacity
unfolding written
returns-else-slot-capacity c =
    slot-left entry_size c.args.slot (encode c.args.m c.args.olds) c.args.«record».now (rw c.capacity.ensures at c.if-slot-capacity.false)
