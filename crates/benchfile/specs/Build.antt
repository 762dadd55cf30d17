-- A bench file put together from its parts (document 01, "Bench file"), and a script from its rows.
use Rattle.std.specs.Prelude.{ℕ, ◌+◌, ◌≤◌, true, List, [], ◌∷◌, ◌++◌, ◌≡◌, length}
use Rattle.benchfile.specs.declared.row.Row.{Row}
use Rattle.fields.specs.Little.{le}
use Rattle.benchfile.specs.Row.{bytes_of, FitRow, lawful}

-- rows that can all stand in a script
abbrev pub Lawful : List Row → Type 0
Lawful [] = Unit
Lawful (r ∷ rs) = FitRow r × (lawful r ≡ true) × Lawful rs

-- the bytes of a script, row after row
unfoldable pub script_of : List Row → List ℕ
script_of [] = []
script_of (r ∷ rs) = bytes_of r ++ script_of rs

-- the contents of four bodies of these lengths
unfoldable pub contents_of : ℕ → ℕ → ℕ → ℕ → List ℕ
contents_of a b c d =
    le 4 32 ++ le 4 a ++ le 4 (32 + a) ++ le 4 b ++ le 4 (32 + a + b) ++ le 4 c ++ le 4 (32 + a + b + c) ++ le 4 d

-- contents, settings, RAM fill, ROM, script
unfoldable pub build : List ℕ → List ℕ → List ℕ → List ℕ → List ℕ
build settings fill rom script =
    contents_of (length settings) (length fill) (length rom) (length script) ++ settings ++ fill ++ rom ++ script

-- a bench file taken apart: settings of 2 bytes, a fill of 1 to 4,096, any ROM, rows that keep their form; at most 65,536 bytes in all
pub record Bench (f : List ℕ) : Type 0 where
  pub settings : List ℕ
  pub fill : List ℕ
  pub rom : List ℕ
  pub rows : List Row
  pub is : f ≡ build settings fill rom (script_of rows)
  pub two : length settings ≡ 2
  pub least : 1 ≤ length fill
  pub most : length fill ≤ 4096
  pub formed : Lawful rows
  pub short : length f ≤ 65536
