-- What a run goes on, as the calls are given it; and the same slices, with what a run left in them.
use Rattle.bench.specs.Calls.{Desk, desk}
use Rattle.script.specs.declared.rig.Rig.{Rig}

-- what it lends to a call
abbrev pub desk_of : Rig → Desk
desk_of g = desk g.bench g.low.now g.high.now g.entries.now

-- the same slices lent, holding what stands on a desk
abbrev pub holding : Rig → Desk → Rig
holding g d = record {
  bench = d.bench;
  low = record g.low { now = d.ram.low };
  high = record g.high { now = d.ram.high };
  entries = record g.entries { now = d.entries };
  rom = g.rom;
}
