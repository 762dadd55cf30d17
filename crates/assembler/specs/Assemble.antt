-- The bench file that a text (docs/BENCH.md) says.
use Rattle.std.specs.Prelude.{ℕ, Bool, not, ◌&&◌, Option, Some, None, List, eqb, replicate}
use Rattle.common.specs.Pick.{pick}
use Rattle.append.specs.Sheet.{Sheet, sheet, puts, shown_of}
use Rattle.fields.specs.Bytes.{part_of}
use Rattle.benchfile.specs.File.{file_check}
use Rattle.reader.specs.{declared.draft.Draft.Draft, Draft.has_failed, Draft.no_later}
use Rattle.reader.specs.declared.kinds.Phase.TheVariants as phase
use Rattle.assembler.specs.Desk.{State, opened, gathered}
use Rattle.assembler.specs.Bind.{bound}

-- the text did not fail, and has settings and a fill
unfoldable pub ready_of : Draft → Bool
ready_of d = not (has_failed d) && no_later phase.Fill d.phase

-- the place behind a bench file; 0 for bytes that are none
unfoldable pub checked : List ℕ → ℕ → ℕ
checked l n = pick (eqb (file_check (part_of l 0 n)) 0) n 0

-- the length of a file, where there is one
abbrev pub placed : ℕ → Option ℕ
placed n = pick (eqb n 0) None (Some n)

-- the bodies bound, and checked
unfoldable pub finished : List ℕ → List ℕ → List ℕ → List ℕ → Sheet
finished out front rom script =
    let p = puts (sheet out 0) (bound front rom script) in
    sheet p.text (checked p.text p.at)

-- what a text says, in fresh buffers: one byte longer than a fill, a ROM or a script may be
unfoldable pub said : List ℕ → List ℕ → State
said file text = gathered file (opened (replicate 4099 0) (replicate 65537 0) (replicate 65537 0)) text

-- what is left in out of a text that says s: the file and its length, or 0
abbrev pub left : List ℕ → State → Sheet
left out s =
    pick (ready_of s.reader.draft) (finished out (shown_of s.front) (shown_of s.rom) (shown_of s.script)) (sheet out 0)

-- the file that a text says, at the start of out
unfoldable pub assembled : List ℕ → List ℕ → List ℕ → Sheet
assembled out text file = left out (said file text)
