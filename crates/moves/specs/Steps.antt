-- A script listed step by step (docs/MOVES.md): it stops after a refusal; a step is made only where 2,048 bytes have room.
use Rattle.std.specs.Prelude.{ℕ, zero, suc, ◌+◌, ◌/◌, ◌&&◌, not, List, leb, eqb, length, get_or}
use Rattle.common.specs.Pick.{pick}
use Rattle.append.specs.Sheet.{Sheet, puts}
use Rattle.append.specs.Lent as lent
use Rattle.bench.specs.Calls.{Desk}
use Rattle.common.specs.Refusal.{number_of}
use Rattle.script.specs.Rig.{desk_of, holding}
use Rattle.walk.specs.Step.{Stepping, step_of}
use Rattle.walk.specs.declared.stand.Stand.{Stand}
use Rattle.moves.specs.{Origin.origin_of, Origin.noted, Text.step_text}
use Rattle.moves.specs.declared.steps.Run.{Run}

-- what is lent, the origins of the record's operations, where the script stands, the refusal of the last call or 0, the text
pub record Running : Type 0 where
  pub desk : Desk
  pub origins : List ℕ
  pub stand : Stand
  pub number : ℕ
  pub sheet : Sheet

-- the same, of what the code has
abbrev pub running : Run → List ℕ → Running
running w o = record { desk = desk_of w.rig; origins = o; stand = w.stand; number = number_of w.refusal; sheet = lent.shown w.out }

-- the same slices lent, with what another has in them
abbrev pub keeping : Run → Run → Run
keeping w v = record v { rig = holding w.rig (desk_of v.rig); out = lent.keeping w.out v.out }

-- the origins with an accepted operation noted; a back step is none
abbrev pub origins_by : ℕ → Running → Stepping → List ℕ
origins_by row w s =
    let a = s.made.answer in
    noted w.origins w.desk.bench.slot (origin_of row w.stand.done) (eqb a.number 0 && not a.back)

-- the lines of a step; the slot that it left as the next one names the operation that a back step took back
abbrev pub lines_by : ℕ → ℕ → Running → Stepping → List ℕ
lines_by only row w s =
    let b = s.made.desk.bench in
    step_text row only w.desk.bench.machine s.says s.made.answer s.stand b.machine.board.clock (get_or (origins_by row w s) b.slot 0)

-- after a step
abbrev pub after : ℕ → ℕ → Running → Stepping → Running
after only row w s =
    record {
      desk = s.made.desk;
      origins = origins_by row w s;
      stand = s.next;
      number = s.made.answer.number;
      sheet = puts w.sheet (lines_by only row w s);
    }

-- the next call, of the row of that number
unfoldable pub listed : List ℕ → List ℕ → ℕ → ℕ → Running → Running
listed rom script only row w = after only row w (step_of rom script w.stand w.desk)

-- one step more, unless there is none, a call was refused, or its lines might have no room
unfoldable pub stepped : List ℕ → List ℕ → ℕ → Running → Running
stepped rom script only w =
    pick (leb (length script / 8) w.stand.next) w
    (pick (eqb w.number 0)
    (pick (leb (w.sheet.at + 2048) (length w.sheet.text)) (listed rom script only (w.stand.next + 1) w) w)
    w)

-- n such steps
unfoldable pub steps : List ℕ → List ℕ → ℕ → ℕ → Running → Running
steps rom script only zero w = w
steps rom script only (suc n) w = stepped rom script only (steps rom script only n w)
