-- A line of a bench's text (docs/BENCH.md) while it is read: src/kinds.rt lists its phases, its kinds, what may be expected and what is completed.
use Rattle.std.specs.Prelude.{ℕ, Bool, true, false, ◌&&◌, Option, Some, None, List, [], ◌∷◌, eqb, leb}
use Rattle.std.specs.Int.Bits.{bit_or}
use Rattle.common.specs.Pick.{pick}
use Rattle.common.specs.Table.{Entry, find, at}
use Rattle.reader.specs.{Letter.base36, declared.draft.Draft.Draft, declared.draft.Opening.Opening}
use Rattle.reader.specs.declared.kinds.{Phase.Phase, Kind.Kind, Expected.Expected, Emit.Emit}
use Rattle.reader.specs.declared.kinds.Phase.TheVariants as phase
use Rattle.reader.specs.declared.kinds.Kind.TheVariants as kind
use Rattle.reader.specs.declared.kinds.Expected.TheVariants as next
use Rattle.reader.specs.declared.kinds.Emit.TheVariants as emit

-- phases in their order
abbrev pub phase_number : Phase → ℕ
phase_number phase.Nothing = 0
phase_number phase.Settings = 1
phase_number phase.Fill = 2
phase_number phase.Rom = 3
phase_number phase.Rows = 4

abbrev pub no_later : Phase → Phase → Bool
no_later p q = leb (phase_number p) (phase_number q)

-- kinds as numbers: those of rows are their first bytes in a bench file (document 01)
abbrev pub kind_number : Kind → ℕ
kind_number kind.Nothing = 0
kind_number kind.Cycles = 1
kind_number kind.Read = 2
kind_number kind.Write = 3
kind_number kind.Pad = 4
kind_number kind.Plug = 5
kind_number kind.Answer = 6
kind_number kind.Back = 7
kind_number kind.Bitcycles = 8
kind_number kind.Fill = 9
kind_number kind.Rom = 10
kind_number kind.RomFile = 11

-- by its fields
abbrev pub draft : Phase → Expected → Kind → ℕ → ℕ → ℕ → ℕ → Emit → Draft
draft p s k x₁ x₂ x₃ x₄ e =
    record { phase = p; expected = s; kind = k; b1 = x₁; b2 = x₂; b3 = x₃; b4 = x₄; emit = e }

-- the same draft, with a mark that the text broke the form here
abbrev pub failed_of : Draft → Draft
failed_of d = draft d.phase d.expected d.kind d.b1 d.b2 d.b3 d.b4 emit.Failed

abbrev pub failed_by : Emit → Bool
failed_by emit.Failed = true
failed_by _ = false

abbrev pub has_failed : Draft → Bool
has_failed d = failed_by d.emit

-- what a word opens: kind, what is expected first, the phases from which and up to which it may come, the phase that it opens
abbrev pub opening : Kind → Expected → Phase → Phase → Phase → Option Opening
opening k s p q r = Some (record { kind = k; expected = s; from = p; upto = q; phase = r })

-- rows come behind the fill
abbrev pub row_opening : Kind → Expected → Option Opening
row_opening k s = opening k s phase.Fill phase.Rows phase.Rows

abbrev pub openings : List (Entry (Option Opening))
openings =
    at (base36 "cycles") (row_opening kind.Cycles next.Count)
    ∷ at (base36 "read") (row_opening kind.Read next.ReadAddress)
    ∷ at (base36 "write") (row_opening kind.Write next.WriteAddress)
    ∷ at (base36 "pad") (row_opening kind.Pad next.PadPort)
    ∷ at (base36 "plug") (row_opening kind.Plug next.PlugPort)
    ∷ at (base36 "answer") (row_opening kind.Answer next.AnswerAddress)
    ∷ at (base36 "back") (row_opening kind.Back next.BackCount)
    ∷ at (base36 "bitcycles") (opening kind.Bitcycles next.BitCycles phase.Nothing phase.Nothing phase.Settings)
    ∷ at (base36 "fill") (opening kind.Fill next.FillByte phase.Settings phase.Fill phase.Fill)
    ∷ at (base36 "rom") (opening kind.Rom next.RomByteOrFile phase.Fill phase.Rom phase.Rom)
    ∷ []

-- any other word opens nothing
abbrev pub opens_of : ℕ → Option Opening
opens_of v = find openings v None

-- a line that is opened, in its phases
abbrev pub opened_in : Draft → Option Opening → Draft
opened_in d None = failed_of d
opened_in d (Some o) =
    pick (no_later o.from d.phase && no_later d.phase o.upto) (draft o.phase o.expected o.kind 0 0 0 0 emit.Nothing) (failed_of d)

-- the first word of a line
unfoldable pub keyword_of : Draft → ℕ → Draft
keyword_of d v = opened_in d (opens_of v)

-- flags set in b4
abbrev pub flagged : Draft → ℕ → Draft
flagged d f = draft d.phase d.expected d.kind d.b1 d.b2 d.b3 (bit_or d.b4 f) d.emit

-- event, line, timer
unfoldable pub option_of : Draft → ℕ → Draft
option_of d v =
    pick (eqb v (base36 "event")) (draft d.phase next.Event d.kind d.b1 d.b2 d.b3 d.b4 d.emit)
    (pick (eqb v (base36 "line")) (flagged d 1) (pick (eqb v (base36 "timer")) (flagged d 2) (failed_of d)))

-- 1 or 0 in b2
abbrev pub switched : Draft → ℕ → Draft
switched d x = draft d.phase next.End d.kind d.b1 x d.b3 d.b4 d.emit

-- on, off
unfoldable pub switch_of : Draft → ℕ → Draft
switch_of d v = pick (eqb v (base36 "on")) (switched d 1) (pick (eqb v (base36 "off")) (switched d 0) (failed_of d))

-- file; no ROM line may follow it
unfoldable pub file_of : Draft → ℕ → Draft
file_of d v =
    pick (eqb v (base36 "file")) (draft phase.Rows next.FileName kind.RomFile d.b1 d.b2 d.b3 d.b4 d.emit) (failed_of d)
