use Rattle.inplace.proofs.{RestJoin.rested-by}
use Rattle.inplace.proofs.rest.rest.Goals as goal

pub returns : goal.returns
returns c =
    rested-by c.args.machine.now c.args.entries.now c.args.out.now c.slot_at-slot.ensures c.kept_at-kept.ensures c.length_at-length.ensures c.wait_at-wait.ensures c.clock_at-clock.ensures c.nmi_at-nmi.ensures c.byte-was.ensures c.copy_image.ensures c.tick.ensures c.count.ensures c.put_quiet.ensures
