-- A folder made of a list of files, one by one.
use Rattle.std.specs.Prelude.{ℕ, List, [], ◌∷◌, map, ◌≡◌, get_or}
use Rattle.totals.specs.Folder.{no_files, Added, add_call}
use Rattle.totals.specs.declared.folder.Folder.{Folder}

-- a file's figures: of all operations, and of the survivors
pub record File : Type 0 where
  pub all : List ℕ
  pub alive : List ℕ

-- one file more, as `add` answers
abbrev pub adding : Folder → File → Added
adding f x = add_call f x.all x.alive

-- the folder after more files
unfoldable pub after : Folder → List File → Folder
after f [] = f
after f (x ∷ xs) = after (adding f x).folder xs

-- the folder of the files
abbrev pub folder_of : List File → Folder
folder_of files = after no_files files

-- no file is refused
abbrev pub Accepted : Folder → List File → Type 0
Accepted f [] = Unit {0}
Accepted f (x ∷ xs) = ((adding f x).number ≡ 0) × Accepted (adding f x).folder xs

-- one figure of every file, in the files' order: of all operations, and of the survivors
abbrev pub all_at : ℕ → List File → List ℕ
all_at i files = map (λ (x : File). get_or x.all i 0) files

abbrev pub alive_at : ℕ → List File → List ℕ
alive_at i files = map (λ (x : File). get_or x.alive i 0) files
