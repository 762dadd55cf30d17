-- One line of the table (document 02, request 4): figure, column, sum, largest, its file, mean.
use Rattle.std.specs.Prelude.{ℕ, List, ◌++◌, get_or}
use Rattle.append.specs.{Number.decimal, Texts.codes}
use Rattle.totals.specs.{Mean.mean_of, declared.Column.Column}
use Rattle.ledger.specs.Name.{name_text}

-- a number and a space
unfoldable pub spaced_text : ℕ → List ℕ
spaced_text n = decimal n ++ codes " "

-- `65537/2`: the mean as a fraction in lowest terms
unfoldable pub mean_text : ℕ → ℕ → List ℕ
mean_text sum files = decimal (mean_of sum files).over ++ codes "/" ++ decimal (mean_of sum files).under

-- `general 0 all 65537 65536 1 65537/2`: the figure at place i in a column, which a word names
unfoldable pub figure_text : ℕ → List ℕ → Column → ℕ → List ℕ
figure_text i word c files =
    name_text i
    ++ word
    ++ spaced_text (get_or c.sum i 0)
    ++ spaced_text (get_or c.most i 0)
    ++ spaced_text (get_or c.file i 0)
    ++ mean_text (get_or c.sum i 0) files
    ++ codes "\n"
