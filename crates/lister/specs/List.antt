-- A bench file as text (docs/BENCH.md): settings, fill, ROM, rows.
use Rattle.std.specs.Prelude.{ℕ, ◌/◌, List, ◌++◌, length}
use Rattle.fields.specs.Little.{field}
use Rattle.benchfile.specs.{Row.row_bytes, File.section_of}
use Rattle.append.specs.Texts.{codes, each}
use Rattle.lister.specs.{Body.lines_text, Row.number_text, Row.row_text}

-- `bitcycles 264`
unfoldable pub settings_text : ℕ → List ℕ
settings_text n = number_text (codes "bitcycles ") n

-- n rows from row i on
abbrev pub rows_text : List ℕ → ℕ → ℕ → List ℕ
rows_text s = each (λ (i : ℕ). row_text (row_bytes s i))

-- all rows
unfoldable pub script_text : List ℕ → List ℕ
script_text s = rows_text s (length s / 8) 0

-- the whole file
unfoldable pub list_text : List ℕ → List ℕ
list_text f =
    settings_text (field 2 (section_of f 0) 0)
    ++ (lines_text (codes "fill") (section_of f 1) ++ (lines_text (codes "rom") (section_of f 2) ++ script_text (section_of f 3)))
