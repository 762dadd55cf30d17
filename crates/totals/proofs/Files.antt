-- The folder of a list of files of which none was refused: every figure of both columns is exact.
use Prim.Native.Nat.{ℕ, ◌+◌, ◌<◌}
use mathlib.Core.List.{List, [], ◌∷◌, map}
use mathlib.Core.Path.{◌≡◌, refl, sym, ap, ◌∙◌}
use native.Mathlib.Nat.{add-zero}
use native.Mathlib.Omega.{arith}
use borrow.Author.Tests.{eq-eqb}
use lib.ListN.{length, get_or, get_or-replicate}
use Rattle.totals.proofs.{Over.Spot, Over.step, Over.steps, Over.steps_of, Over.whole, Placed.placed_at}
use Rattle.totals.specs.Column.{no_column, plus_all, largest_all, file_all, column_with}
use Rattle.totals.specs.Files.{File, adding, after, folder_of, Accepted, all_at, alive_at}
use Rattle.totals.specs.Folder.{no_files, folder_with, folder_number, add_call}
use Rattle.totals.specs.Over.{sum_of, largest_of, file_of}
use Rattle.totals.specs.declared.{Column.Column, folder.Folder.Folder}

-- place i of a column
abbrev spot : Column → ℕ → Spot
spot c i = record { sum = get_or c.sum i 0; most = get_or c.most i 0; file = get_or c.file i 0 }

-- place i of a column has the largest of the figures, and the first file that has it
pub record First (c : Column) (i : ℕ) (figures : List ℕ) : Type 0 where
  pub most : get_or c.most i 0 ≡ largest_of figures
  pub file : get_or c.file i 0 ≡ file_of figures

grown : (f : Folder) (x : File) → (adding f x).number ≡ 0 → (adding f x).folder ≡ folder_with f x.all x.alive
unfolding add_call
grown f x z = rw (eq-eqb (folder_number f x.all x.alive) 0 z)

module _ (i : ℕ) (h : i < 29) where
  spot-with : (c : Column) (n : ℕ) (xs : List ℕ) → spot (column_with c n xs) i ≡ step n (spot c i) (get_or xs i 0)
  unfolding column_with
  spot-with c n xs k = record {
    sum = placed_at (plus_all c xs) 29 i h k;
    most = placed_at (largest_all c n xs) 29 i h k;
    file = placed_at (file_all c n xs) 29 i h k;
  }

  -- either column, and what a file has for it
  module _ (column : Folder → Column) (figures : File → List ℕ)
      (with : (f : Folder) (x : File) → column (folder_with f x.all x.alive) ≡ column_with (column f) (f.files + 1) (figures x)) where
    spot-after : (f : Folder) (files : List File) → Accepted f files
        → spot (column (after f files)) i ≡ steps f.files (spot (column f) i) (map (λ (x : File). get_or (figures x) i 0) files)
    unfolding after
    spot-after f [] a = refl
    spot-after f (x ∷ xs) a =
        let more : List ℕ = map (λ (y : File). get_or (figures y) i 0) xs in
        spot-after (adding f x).folder xs a.1
        ∙ ap (λ (g : Folder). steps g.files (spot (column g) i) more) (grown f x a.0)
        ∙ ap (λ (s : Spot). steps (f.files + 1) s more) (ap (λ (c : Column). spot c i) (with f x) ∙ spot-with (column f) (f.files + 1) (figures x))

    exact : column no_files ≡ no_column → (files : List File) → Accepted no_files files → spot (column (folder_of files)) i ≡ whole (map (λ (x : File). get_or (figures x) i 0) files)
    exact e files a = spot-after no_files files a ∙ rw (e, get_or-replicate {A = ℕ} 29 i 0 0 h) (steps_of (map (λ (x : File). get_or (figures x) i 0) files))

  module _ (files : List File) (a : Accepted no_files files) where
    all-exact : spot (folder_of files).all i ≡ whole (all_at i files)
    all-exact = exact (λ (f : Folder). f.all) (λ (x : File). x.all) (λ f x. refl) refl files a

    alive-exact : spot (folder_of files).alive i ≡ whole (alive_at i files)
    alive-exact = exact (λ (f : Folder). f.alive) (λ (x : File). x.alive) (λ f x. refl) refl files a

    -- both columns' sums
    pub sum-exact : (get_or (folder_of files).all.sum i 0 ≡ sum_of (all_at i files)) × (get_or (folder_of files).alive.sum i 0 ≡ sum_of (alive_at i files))
    sum-exact = (λ k. (all-exact k).sum, λ k. (alive-exact k).sum)

    -- both columns' largest, and the first file that has each
    pub largest_first : First (folder_of files).all i (all_at i files) × First (folder_of files).alive i (alive_at i files)
    largest_first = (
      record { most = λ k. (all-exact k).most; file = λ k. (all-exact k).file },
      record { most = λ k. (alive-exact k).most; file = λ k. (alive-exact k).file },
    )

-- and the count is that of the files
pub count-exact : (f : Folder) (files : List File) → Accepted f files → (after f files).files ≡ f.files + length files
unfolding after
count-exact f [] a = sym (add-zero f.files)
count-exact f (x ∷ xs) a = let e = ap (λ (g : Folder). g.files) (grown f x a.0) in omega (arith, count-exact (adding f x).folder xs a.1)
