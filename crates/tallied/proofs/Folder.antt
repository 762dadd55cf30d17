-- At most 256 bench files, sound or not, make a folder, and none of them is refused: no total comes near 2^64 - 1.
use Prim.Native.Nat.{ℕ, ◌+◌, ◌*◌, ◌≤◌, ◌<◌}
use mathlib.Core.Bool.{Bool, true, false}
use mathlib.Core.List.{List, [], ◌∷◌}
use mathlib.Core.Path.{◌≡◌, refl, sym, subst}
use native.Mathlib.Omega.{arith}
use borrow.Author.Tests.{eqb-true, eqb-false}
use lib.Dec.{eqb}
use lib.ListN.{length, get_or, replicate}
use Rattle.common.specs.{All.AllOf, Width.Bytes}
use Rattle.totals.proofs.{Placed.placed_at, Refused.all_fit-accepted}
use Rattle.totals.specs.{Column.column_with, Column.plus_all, Files.File, Files.adding, Files.Accepted, Folder.no_files, Folder.folder_with, Folder.add_call}
use Rattle.totals.specs.declared.folder.Folder.{Folder}
use Rattle.start.specs.Start.{refusal_of}
use Rattle.tally.specs.File.{file_count}
use Rattle.tallied.proofs.Files.{both-low, whole-refused, can_run}
use Rattle.tallied.proofs.{Flat.Under, Typed.all-zero}

-- a file with no figure above that
pub record Few (x : File) : Type 0 where
  pub all : Under 29527900160 x.all
  pub alive : Under 29527900160 x.alive

-- so many files have made a folder's sums
record Below (f : Folder) : Type 0 where
  all : (i : ℕ) → i < 29 → get_or f.all.sum i 0 ≤ f.files * 29527900160
  alive : (i : ℕ) → i < 29 → get_or f.alive.sum i 0 ≤ f.files * 29527900160

with-below : (f : Folder) (x : File) → Below f → Few x → Below (folder_with f x.all x.alive)
unfolding column_with
with-below f x b w = record {
  all = λ i h. omega (arith, placed_at (plus_all f.all x.all) 29 i h, b.all i h, w.all i);
  alive = λ i h. omega (arith, placed_at (plus_all f.alive x.alive) 29 i h, b.alive i h, w.alive i);
}

goes_on : (f : Folder) (x : File) → (adding f x).number ≡ 0 → (adding f x).folder ≡ folder_with f x.all x.alive
unfolding add_call
goes_on f x z = rw z

few-accepted : (f : Folder) (files : List File) → Below f → f.files + length files ≤ 256 → AllOf Few files → Accepted f files
few-accepted f [] b n w = tt
few-accepted f (x ∷ xs) b n w =
    let z = all_fit-accepted f x.all x.alive (λ i h. omega (arith, b.all i h, w.0.all i)) (λ i h. omega (arith, b.alive i h, w.0.alive i)) (omega arith) in
    (z, subst (λ (g : Folder). Accepted g xs) (sym (goes_on f x z)) (few-accepted (folder_with f x.all x.alive) xs (with-below f x b w.0) (omega arith) w.1))

pub folder_accepted : (files : List File) → length files ≤ 256 → AllOf Few files → Accepted no_files files
folder_accepted files n w = few-accepted no_files files (record { all = λ i h. omega (arith, all-zero 29 i); alive = λ i h. omega (arith, all-zero 29 i) }) (omega arith) w

-- what is counted of a file, on banks and a record of 65,536 bytes each, whatever they hold
abbrev pub counted_of : List ℕ → (l h e : List ℕ) → ℕ → File
counted_of f l h e k = let c = file_count f l h e (replicate k 0) (replicate 29 0) (replicate 29 0) in record { all = c.all; alive = c.kept }

pub file-few : (f l h e : List ℕ) (k : ℕ) → Bytes f → length l ≡ 65536 → length h ≡ 65536 → length e ≡ 65536 → 8192 ≤ k → Few (counted_of f l h e k)
file-few f l h e k bytes p q n room = go (eqb (refusal_of f l h) 0) refl
  where
    go : (b : Bool) → eqb (refusal_of f l h) 0 ≡ b → Few (counted_of f l h e k)
    go true r =
        let (checked, fresh) = can_run f l h p q (eqb-true (refusal_of f l h) 0 r) in
        let low = both-low f bytes checked fresh l h e p q n k room in
        record { all = low.0; alive = low.1 }
    go false r =
        let (number, row, all, kept) = whole-refused f l h e (replicate k 0) (replicate 29 0) (replicate 29 0) (eqb-false (refusal_of f l h) 0 r) in
        record { all = λ j. rw all (omega (arith, all-zero 29 j)); alive = λ j. rw kept (omega (arith, all-zero 29 j)) }
