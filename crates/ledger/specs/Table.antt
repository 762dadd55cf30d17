-- A folder's table, and the line of a file.
use Rattle.std.specs.Prelude.{ℕ, List, ◌++◌}
use Rattle.append.specs.Texts.{codes, each}
use Rattle.totals.specs.declared.folder.Folder.{Folder}
use Rattle.ledger.specs.Figure.{spaced_text, figure_text}

-- `file 1 8 12 worked.bench`: its number, the refusal that ended its count or 0, the row, its name
unfoldable pub file_text : ℕ → ℕ → ℕ → List ℕ → List ℕ
file_text n number row name = codes "file " ++ spaced_text n ++ spaced_text number ++ spaced_text row ++ name ++ codes "\n"

-- the figure at place i of all operations, and of survivors only
unfoldable pub both_text : Folder → ℕ → List ℕ
both_text f i = figure_text i (codes " all ") f.all f.files ++ figure_text i (codes " survivors ") f.alive f.files

-- the 29 figures in their order
unfoldable pub table_text : Folder → List ℕ
table_text f = each (both_text f) 29 0
