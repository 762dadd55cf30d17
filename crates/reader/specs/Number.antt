-- Numbers of a line of the text form (docs/BENCH.md): their ranges, and the bytes of the draft that they are written to.
use Rattle.std.specs.Prelude.{ℕ, ◌/◌, ◌%◌, ◌&&◌, Option, Some, None, leb}
use Rattle.common.specs.Pick.{pick}
use Rattle.reader.specs.declared.{draft.Draft.Draft, number.To.To, number.Place.Place, kinds.Expected.Expected, kinds.Emit.Emit}
use Rattle.reader.specs.declared.number.To.TheVariants.{B1, B3, B4, B1B2, B2B3, B1B2B3}
use Rattle.reader.specs.declared.kinds.Expected.TheVariants as next
use Rattle.reader.specs.declared.kinds.Emit.TheVariants as emit
use Rattle.reader.specs.Draft.{draft, failed_of}

-- by its fields: the least and the largest value, where it goes, what is expected behind it, and what it completes
abbrev pub place : ℕ → ℕ → To → Expected → Emit → Option Place
place a b t n e = Some (record { least = a; most = b; to = t; next = n; emit = e })

-- the places of numbers. Counts are 1 up; bytes of a fill or a ROM are complete as they come
abbrev pub place_of : Expected → Option Place
place_of next.Count = place 1 65535 B1B2 next.Options emit.Nothing
place_of next.Event = place 0 255 B3 next.Options emit.Nothing
place_of next.ReadAddress = place 0 16777215 B1B2B3 next.End emit.Nothing
place_of next.Byte = place 0 255 B4 next.End emit.Nothing
place_of next.PadPort = place 0 255 B1 next.PadWord emit.Nothing
place_of next.PadWord = place 0 65535 B2B3 next.End emit.Nothing
place_of next.AnswerAddress = place 0 65535 B2B3 next.Byte emit.Nothing
place_of next.BitCycles = place 0 65535 B1B2 next.End emit.Nothing
place_of next.FillByte = place 0 255 B1 next.MoreFill emit.FillByte
place_of next.RomByteOrFile = place 0 255 B1 next.MoreRom emit.RomByte
place_of next.MoreFill = place 0 255 B1 next.MoreFill emit.FillByte
place_of next.BackCount = place 1 65535 B1B2 next.End emit.Nothing
place_of next.WriteAddress = place 0 16777215 B1B2B3 next.Byte emit.Nothing
place_of next.PlugPort = place 0 255 B1 next.OnOff emit.Nothing
place_of next.MoreRom = place 0 255 B1 next.MoreRom emit.RomByte
place_of _ = None

-- a draft with these four bytes
abbrev pub bytes_in : Draft → ℕ → ℕ → ℕ → ℕ → Draft
bytes_in d x₁ x₂ x₃ x₄ = draft d.phase d.expected d.kind x₁ x₂ x₃ x₄ d.emit

-- with the bytes of a number where they go, as document 01 lays out the rows
abbrev pub written_of : Draft → To → ℕ → Draft
written_of d B1 v = bytes_in d (v % 256) d.b2 d.b3 d.b4
written_of d B3 v = bytes_in d d.b1 d.b2 (v % 256) d.b4
written_of d B4 v = bytes_in d d.b1 d.b2 d.b3 (v % 256)
written_of d B1B2 v = bytes_in d (v % 256) (v / 256 % 256) d.b3 d.b4
written_of d B2B3 v = bytes_in d d.b1 (v % 256) (v / 256 % 256) d.b4
written_of d B1B2B3 v = bytes_in d (v / 65536 % 256) (v % 256) (v / 256 % 256) d.b4

-- behind it
abbrev pub passed : Draft → Expected → Emit → Draft
passed d n e = draft d.phase n d.kind d.b1 d.b2 d.b3 d.b4 e

-- a number where one is expected, in its range
abbrev pub number_in : Option Place → Draft → ℕ → Draft
number_in None d v = failed_of d
number_in (Some p) d v = pick (leb p.least v && leb v p.most) (passed (written_of d p.to v) p.next p.emit) (failed_of d)

unfoldable pub number_of : Draft → ℕ → Draft
number_of d v = number_in (place_of d.expected) d v
