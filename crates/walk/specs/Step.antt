-- A script one call at a time: each call is lent what the last left.
use Rattle.std.specs.Prelude.{ℕ, List}
use Rattle.bench.specs.Calls.{Desk}
use Rattle.benchfile.specs.Row.{row_at}
use Rattle.benchfile.specs.declared.row.Row.{Row}
use Rattle.script.specs.declared.rig.Rig.{Rig}
use Rattle.walk.specs.Call.{Calling, calling, call_of}
use Rattle.walk.specs.{Stand.counted, Stand.onward, declared.stand.Stand.Stand, declared.step.Step.Step}

-- a call made: its row, what it answered and left, where the script stands with it counted, and where it goes on
pub record Stepping : Type 0 where
  pub says : Row
  pub made : Calling
  pub stand : Stand
  pub next : Stand

-- the same, of what the code returns and what it ran on
abbrev pub stepping : Step → Rig → Stepping
stepping r g = record { says = r.says; made = calling r.answer g; stand = r.stand; next = r.next }

-- where it leads
abbrev pub step_by : Stand → Row → Calling → Stepping
step_by s row o =
    let t = counted s o.answer.number o.answer.held in record { says = row; made = o; stand = t; next = onward t o.answer.count }

-- the next call of a script
unfoldable pub step_of : List ℕ → List ℕ → Stand → Desk → Stepping
step_of rom script s d = let row = row_at script s.next in step_by s row (call_of rom s.done row d)
