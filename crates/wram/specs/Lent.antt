-- Both banks as the code lends them.
use Rattle.wram.specs.Banks.{Banks, banks}
use Rattle.wram.specs.declared.Ram.{Ram}

-- what stands in them
abbrev pub seen : Ram → Banks
seen r = banks r.low.now r.high.now

-- the same two slices, with other bytes in them
abbrev pub holding : Ram → Banks → Ram
holding r b = record r { low = record r.low { now = b.low }; high = record r.high { now = b.high } }
