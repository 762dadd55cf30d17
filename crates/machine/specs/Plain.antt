-- So many plain cycles in a row, that is, with no event, no line due and no timer's hit: machine, banks, accesses, and how many were held.
use Rattle.std.specs.Prelude.{ℕ, zero, suc, ◌+◌, Bool, false, List, [], ◌++◌}
use mir.Val.{bool_byte}
use Rattle.bus.specs.{Access.accesses_of, declared.access.Access.Access}
use Rattle.state.specs.declared.Machine.{Machine}
use Rattle.wram.specs.Banks.{Banks}
use Rattle.machine.specs.Cycle.{Turned, machine_after, cycled}
use Rattle.machine.specs.declared.event.Event.TheVariants.{Nothing}

-- what cycles leave, the accesses that they made, in order, and how many of them were held
pub record Ran : Type 0 where
  pub machine : Machine
  pub ram : Banks
  pub made : List Access
  pub held : ℕ

-- before the first
abbrev pub begin : Machine → Banks → Ran
begin m ram = record { machine = m; ram = ram; made = []; held = 0 }

-- the plain cycle that comes next
abbrev pub next : List ℕ → Ran → Turned
next rom s = cycled rom s.machine s.ram.low s.ram.high Nothing false false

-- one cycle more
abbrev pub also : Ran → Turned → Ran
also s t =
    record {
      machine = machine_after t;
      ram = t.after.world.ram;
      made = s.made ++ accesses_of t.after.world.core.log;
      held = s.held + bool_byte t.held;
    }

-- n of them, one after the other
unfoldable pub plain : List ℕ → ℕ → Ran → Ran
plain rom zero s = s
plain rom (suc n) s = also (plain rom n s) (next rom (plain rom n s))

-- whether the cycle behind n others is held
abbrev pub held_at : List ℕ → ℕ → Ran → Bool
held_at rom n s = (next rom (plain rom n s)).held
