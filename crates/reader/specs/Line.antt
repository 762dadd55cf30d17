-- Words of a line of the text form (docs/BENCH.md), one after the other, and the line's end.
use Rattle.std.specs.Prelude.{ℕ, Bool, true, false, Option, Some, None}
use Rattle.common.specs.Pick.{pick}
use Rattle.reader.specs.declared.{draft.Draft.Draft, word.Token.Token, kinds.Kind.Kind, kinds.Expected.Expected, kinds.Emit.Emit}
use Rattle.reader.specs.declared.word.Token.TheVariants.{Letters, Number}
use Rattle.reader.specs.declared.kinds.Kind.TheVariants as kind
use Rattle.reader.specs.declared.kinds.Expected.TheVariants as next
use Rattle.reader.specs.declared.kinds.Emit.TheVariants as emit
use Rattle.reader.specs.Draft.{draft, failed_of, has_failed, keyword_of, option_of, switch_of, file_of}
use Rattle.reader.specs.Number.{number_of}

abbrev pub named_by : Expected → Draft → ℕ → Draft
named_by next.Line d v = keyword_of d v
named_by next.Options d v = option_of d v
named_by next.OnOff d v = switch_of d v
named_by next.RomByteOrFile d v = file_of d v
named_by _ d v = failed_of d

-- letters where they are expected
unfoldable pub named_of : Draft → ℕ → Draft
named_of d v = named_by d.expected d v

-- a whole word
unfoldable pub taken_of : Draft → Option Token → Draft
taken_of d (Some (Letters v)) = named_of d v
taken_of d (Some (Number v)) = number_of d v
taken_of d None = failed_of d

-- what a line's end completes
abbrev pub closed_of : Kind → Emit → Emit
closed_of kind.Bitcycles e = emit.Settings
closed_of kind.Fill e = e
closed_of kind.Rom e = e
closed_of kind.RomFile e = emit.RomFile
closed_of _ e = emit.Row

-- a line may end behind its options, its bytes, or where its end is expected
abbrev pub ends_of : Expected → Bool
ends_of next.Options = true
ends_of next.MoreFill = true
ends_of next.End = true
ends_of next.MoreRom = true
ends_of _ = false

-- the end of a line with words
unfoldable pub closing_of : Draft → Draft
closing_of d =
    pick (ends_of d.expected)
    (draft d.phase next.Line d.kind d.b1 d.b2 d.b3 d.b4 (closed_of d.kind d.emit))
    (failed_of d)

-- whether nothing was read since the line began
abbrev pub fresh : Expected → Bool
fresh next.Line = true
fresh _ = false

-- the line's end; an empty line is nothing
unfoldable pub line_of : Draft → Draft
line_of d = pick (has_failed d) d (pick (fresh d.expected) d (closing_of d))
