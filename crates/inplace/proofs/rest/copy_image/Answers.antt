use Rattle.asbytes.proofs.Head.{head-long}
use Rattle.asbytes.specs.Machine.{head_of}
use Rattle.entry.proofs.Slots.{slot-laid, slot-left}
use Rattle.layout.specs.Layout.{entry_size}
use Rattle.inplace.proofs.rest.copy_image.Goals as goal

pub returns-then-slot-capacity : goal.returns-then-slot-capacity
returns-then-slot-capacity c =
    slot-laid entry_size c.args.slot (head_of c.args.s.now) c.args.entries.now c.put_head.new.part (head-long c.args.s.now)
    (rw c.capacity.ensures at c.if-slot-capacity.true) c.put_head.ensures

pub returns-else-slot-capacity : goal.returns-else-slot-capacity
returns-else-slot-capacity c =
    slot-left entry_size c.args.slot (head_of c.args.s.now) c.args.entries.now (rw c.capacity.ensures at c.if-slot-capacity.false)
