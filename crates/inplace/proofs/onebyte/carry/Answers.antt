use Rattle.std.proofs.Common.{rules, ap}
use Rattle.wram.specs.Lent.{seen}
use Rattle.inplace.proofs.{OneByteJoin.carried-by}
use Rattle.inplace.proofs.onebyte.carry.Goals as goal

pub returns : goal.returns
returns c =
    let made = carried-by c.args.rom.now c.args.low.now c.args.high.now c.args.machine.now c.head-e.ensures c.trip_at-trip.ensures c.byte_from-moved.ensures c.place_at-place.ensures c.nmi_at-nmi.ensures c.byte-was.ensures
    c.args.entries.now c.args.out.now c.slot_at-slot.ensures c.kept_at-kept.ensures c.length_at-length.ensures c.sum_at-sum.ensures c.no_olds.ensures c.keep_old-olds.ensures c.sum_with-next.ensures (ap seen c.poke.ensures)
    c.note_moved.ensures c.move_on.ensures c.count.ensures c.put_sum.ensures c.put_moved.ensures in
    search rules
