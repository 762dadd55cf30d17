-- The bytes that a text (docs/BENCH.md) says, gathered in three buffers: settings and fill, ROM, script.
use Rattle.std.specs.Prelude.{ℕ}
use mathlib.Core.List.{List, [], ◌∷◌, foldl}
use Rattle.append.specs.Sheet.{Sheet, sheet, puts}
use Rattle.reader.specs.declared.kinds.Emit.{Emit}
use Rattle.reader.specs.declared.kinds.Emit.TheVariants.{FillByte, Settings, Row, RomFile, RomByte}
use Rattle.reader.specs.{Draft.kind_number, declared.draft.Draft.Draft, declared.reader.Reader.Reader, Reader.start_of, Reader.read_of}
use Rattle.assembler.specs.declared.desk.Desk.{Desk}

abbrev pub front_by : Emit → Draft → List ℕ
front_by FillByte d = d.b1 ∷ []
front_by Settings d = d.b1 ∷ d.b2 ∷ []
front_by _ d = []

-- what a completed word or line adds to settings and fill
unfoldable pub front_of : Draft → List ℕ
front_of d = front_by d.emit d

abbrev pub rom_by : Emit → List ℕ → Draft → List ℕ
rom_by RomFile file d = file
rom_by RomByte file d = d.b1 ∷ []
rom_by _ file d = []

-- to the ROM
unfoldable pub rom_of : List ℕ → Draft → List ℕ
rom_of file d = rom_by d.emit file d

abbrev pub script_by : Emit → Draft → List ℕ
script_by Row d = kind_number d.kind ∷ d.b1 ∷ d.b2 ∷ d.b3 ∷ d.b4 ∷ 0 ∷ 0 ∷ 0 ∷ []
script_by _ d = []

-- and to the script
unfoldable pub script_of : Draft → List ℕ
script_of d = script_by d.emit d

-- the reader, and the three buffers
pub record State : Type 0 where
  pub reader : Reader
  pub front : Sheet
  pub rom : Sheet
  pub script : Sheet

-- by its fields
abbrev pub made : Reader → Sheet → Sheet → Sheet → State
made r f o s = record { reader = r; front = f; rom = o; script = s }

-- the same, of the code's Desk and the buffers lent with it
abbrev pub state : Desk → List ℕ → List ℕ → List ℕ → State
state k f r s = made k.reader (sheet f k.front) (sheet r k.rom) (sheet s k.script)

-- with what r completes added; file is the ROM file
abbrev pub added : List ℕ → Sheet → Sheet → Sheet → Reader → State
added file f o s r = made r (puts f (front_of r.draft)) (puts o (rom_of file r.draft)) (puts s (script_of r.draft))

-- one character more
unfoldable pub stepped : List ℕ → State → ℕ → State
stepped file k c = added file k.front k.rom k.script (read_of k.reader c)

-- all characters of a text
unfoldable pub runs : List ℕ → State → List ℕ → State
runs file s t = foldl (stepped file) s t

-- before the first character
abbrev pub opened : List ℕ → List ℕ → List ℕ → State
opened f r s = made start_of (sheet f 0) (sheet r 0) (sheet s 0)

-- the whole text, with a line feed behind it
unfoldable pub gathered : List ℕ → State → List ℕ → State
gathered file s t = stepped file (runs file s t) 10
