-- A folder, and one file more: refused where a total would not fit, then where there are 256 files already.
use Rattle.std.specs.Prelude.{ℕ, ◌+◌, Bool, ◌||◌, List, Result, Ok, Err, eqb, leb}
use Rattle.common.specs.Pick.{pick}
use Rattle.totals.specs.Column.{passes, no_column, column_with}
use Rattle.common.specs.Refusal.{refusal_number}
use Rattle.common.specs.declared.refusal.Refusal.{Refusal}
use Rattle.totals.specs.declared.folder.Folder.{Folder}

-- no files: everything 0
abbrev pub no_files : Folder
no_files = record { files = 0; all = no_column; alive = no_column }

-- some total of either column would pass 2^64 - 1
abbrev pub overflows : Folder → List ℕ → List ℕ → Bool
overflows f all alive = passes f.all.sum all || passes f.alive.sum alive

-- there are 256 files or more
abbrev pub full : Folder → Bool
full f = leb 256 f.files

-- the refusal of one file more, or 0
unfoldable pub folder_number : Folder → List ℕ → List ℕ → ℕ
folder_number f all alive = pick (overflows f all alive) 13 (pick (full f) 14 0)

-- the folder with the file
abbrev pub folder_with : Folder → List ℕ → List ℕ → Folder
folder_with f all alive = record {
  files = f.files + 1;
  all = column_with f.all (f.files + 1) all;
  alive = column_with f.alive (f.files + 1) alive;
}

-- the refusal or 0, and the folder
pub record Added : Type 0 where
  pub number : ℕ
  pub folder : Folder

-- the same, of what the code returns beside the folder given
abbrev pub added : Folder → Result Folder Refusal → Added
added f (Ok g) = record { number = 0; folder = g }
added f (Err x) = record { number = refusal_number x; folder = f }

-- one file more; a refused call leaves the folder
unfoldable pub add_call : Folder → List ℕ → List ℕ → Added
add_call f all alive =
    let n = folder_number f all alive in
    record { number = n; folder = pick (eqb n 0) (folder_with f all alive) f }
