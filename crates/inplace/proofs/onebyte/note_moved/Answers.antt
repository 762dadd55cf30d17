use Rattle.asbytes.specs.Machine.{head_of}
use Rattle.entry.proofs.Slots.{slot-laid, slot-left}
use Rattle.fields.specs.Patch.{patched}
use Rattle.image.specs.Encode.{enc_olds}
use Rattle.inplace.proofs.{OneByteJoin.noted-long}
use Rattle.inplace.specs.Rest.{at}
use Rattle.layout.specs.Layout as the
use Rattle.layout.specs.Layout.{entry_size}
use Rattle.inplace.proofs.onebyte.note_moved.Goals as goal

pub returns-then-slot-capacity : goal.returns-then-slot-capacity
returns-then-slot-capacity c =
    slot-laid entry_size c.args.slot (patched (head_of c.args.s.now) (at the.old_count) (enc_olds c.args.olds)) c.args.entries.now c.put_noted.new.part (noted-long c.args.s.now c.args.olds)
    (rw c.capacity.ensures at c.if-slot-capacity.true) c.put_noted.ensures

pub returns-else-slot-capacity : goal.returns-else-slot-capacity
returns-else-slot-capacity c =
    slot-left entry_size c.args.slot (patched (head_of c.args.s.now) (at the.old_count) (enc_olds c.args.olds)) c.args.entries.now (rw c.capacity.ensures at c.if-slot-capacity.false)
