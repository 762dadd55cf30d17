-- Rows of a script one by one: the trace "stops after a refusal"; a step is made only where a line of 105 bytes has room.
use Rattle.std.specs.Prelude.{ℕ, zero, suc, ◌+◌, ◌/◌, List, leb, eqb, length}
use Rattle.common.specs.Pick.{pick}
use Rattle.bench.specs.Calls.{Desk}
use Rattle.benchfile.specs.Row.{row_bytes}
use Rattle.append.specs.Sheet.{Sheet, sheet}
use Rattle.append.specs.Lent as lent
use Rattle.append.specs.declared.Sheet.{Sheet as Lent}
use Rattle.common.specs.Refusal.{number_of}
use Rattle.script.specs.{Rig.desk_of, declared.rig.Rig.Rig}
use Rattle.printout.specs.{Row.Shown, Row.row_shown, declared.row.Show.Show, declared.rows.Stand.Stand}

-- where a script stands: what is lent, the row to run next, the refusal of the last one or 0, the buffer
pub record Standing : Type 0 where
  pub desk : Desk
  pub next : ℕ
  pub number : ℕ
  pub out : Sheet

-- the same, of what the code returns, what it ran on and the buffer
abbrev pub standing : Stand → Rig → Lent → Standing
standing s g out = record { desk = desk_of g; next = s.next; number = number_of s.refusal; out = lent.shown out }

-- before row `first`, with no text yet
abbrev pub start : Desk → ℕ → List ℕ → Standing
start d first out = record { desk = d; next = first; number = 0; out = sheet out 0 }

-- behind the next row
abbrev pub after : Standing → Shown → Standing
after s o = record { desk = o.ran.desk; next = s.next + 1; number = o.ran.number; out = o.out }

-- one row more, unless there is none, one was refused, or its line might have no room
unfoldable pub stepped : List ℕ → List ℕ → Show → Standing → Standing
stepped rom script show s =
    pick (leb (length script / 8) s.next) s
    (pick (eqb s.number 0)
    (pick (leb (s.out.at + 105) (length s.out.text))
    (after s (row_shown rom (row_bytes script s.next) (s.next + 1) show s.desk s.out))
    s)
    s)

-- n such steps
unfoldable pub steps : List ℕ → List ℕ → Show → ℕ → Standing → Standing
steps rom script show zero s = s
steps rom script show (suc n) s = stepped rom script show (steps rom script show n s)
