-- The lines of a step have room in 2,048 bytes: at most eleven accesses, an NMI edge, and the row's end. So a step that is made puts its
-- lines whole behind the text.
use Prim.Native.Nat.{ℕ, ◌+◌, ◌≤◌}
use mathlib.Core.Bool.{◌&&◌, false}
use mathlib.Core.List.{List, ◌++◌}
use mathlib.Core.Path.{◌≡◌}
use native.Mathlib.Omega.{arith}
use lib.Dec.{eqb, ltb}
use lib.ListN.{length, get_or, length-append}
use Rattle.common.proofs.TableLaws.{pick_elim}
use Rattle.append.specs.Sheet.{shown_of}
use Rattle.append.proofs.Laws.{puts-room}
use Rattle.benchfile.specs.declared.row.Row.{Row}
use Rattle.benchfile.specs.declared.row.Row.TheVariants.{Cycles, Read, Write, Pad, Plug, Answer as Reply, Back, Broken}
use Rattle.bus.specs.declared.access.Access.{Access}
use Rattle.listing.specs.Event.{refused_text}
use Rattle.state.specs.declared.Machine.{Machine}
use Rattle.touch.specs.Reach.{reach_of}
use Rattle.touch.specs.declared.who.Who.TheVariants.{Cpu}
use Rattle.walk.specs.{Step.step_of, Call.Answered, declared.stand.Stand.Stand}
use Rattle.moves.specs.Steps.{Running, origins_by, lines_by, listed}
use Rattle.moves.specs.Text.{cpu_text, returned_text, step_text}
use Rattle.listing.proofs.Lengths.{Within, access-most, cycle-most, end-most, back-most, refused-most}

pub step-most : (row only : ℕ) (m : Machine) (says : Row) (o : Answered) (s : Stand) (clock origin : ℕ) → Within 2048 (step_text row only m says o s clock origin)
unfolding step_text cpu_text returned_text
step-most row only m says o s clock origin = go says
  where
    cpu : (a : Access) → Within 2048 (cpu_text row only m a o.number)
    cpu a =
        let t = access-most (record { row = row; clock = m.board.clock; only = only; who = Cpu }) a (reach_of Cpu m.io.wmadd a) false in
        let r = refused-most row m.board.clock o.number in
        pick_elim (Within 2048) (eqb o.number 0) (omega arith) (omega arith)

    plain : Within 2048 (refused_text row clock o.number)
    plain = omega (arith, refused-most row clock o.number)

    go : (x : Row) → Within 2048 (step_text row only m x o s clock origin)
    go (Cycles count event due timer) =
        let a = cycle-most row only m o.log o.edge in
        let e = end-most row clock only o.number s.held s.done count in
        simp length-append (omega arith)
    go (Read bank addr) = cpu _
    go (Write bank addr byte) = cpu _
    go (Pad port word) = plain
    go (Plug port on) = plain
    go (Reply addr byte) = plain
    go (Back count) =
        let b = back-most row clock s.done count origin in
        let r = refused-most row clock o.number in
        pick_elim (Within 2048) (eqb o.number 0 && ltb s.done count) (omega arith) (simp length-append (omega arith))
    go Broken = plain

-- a step's lines stand whole behind the text before them
pub lines-whole : (rom script : List ℕ) (only row : ℕ) (w : Running) → w.sheet.at + 2048 ≤ length w.sheet.text
    → shown_of (listed rom script only row w).sheet ≡ shown_of w.sheet ++ lines_by only row w (step_of rom script w.stand w.desk)
unfolding listed
lines-whole rom script only row w h =
    let s = step_of rom script w.stand w.desk in
    let b = s.made.desk.bench in
    let o = get_or (origins_by row w s) b.slot 0 in
    let m : length (lines_by only row w s) ≤ 2048 = step-most row only w.desk.bench.machine s.says s.made.answer s.stand b.machine.board.clock o in
    (puts-room (lines_by only row w s) w.sheet.text w.sheet.at (omega arith)).0
