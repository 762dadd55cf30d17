-- A refused file leaves the folder; a total that does not fit is named first, full folder or not; where all fit and there is room, a file is accepted.
use Prim.Native.Nat.{ℕ, ◌+◌, ◌<◌, ◌^◌}
use mathlib.Core.Bool.{true}
use mathlib.Core.List.{List}
use mathlib.Core.Logic.{◌≢◌}
use mathlib.Core.Path.{◌≡◌}
use borrow.Author.Tests.{ne_eqb, lt-leb}
use lib.ListN.{get_or}
use Rattle.totals.proofs.Passing.{none_passes}
use Rattle.totals.specs.Folder.{overflows, folder_number, add_call}
use Rattle.totals.specs.declared.folder.Folder.{Folder}

module _ (f : Folder) (all alive : List ℕ) where
  pub refused-leaves : (add_call f all alive).number ≢ 0 → (add_call f all alive).folder ≡ f
  unfolding add_call
  refused-leaves z = rw (ne_eqb (folder_number f all alive) 0 z)

  pub thirteen_first : overflows f all alive ≡ true → (add_call f all alive).number ≡ 13
  unfolding add_call folder_number
  thirteen_first e = rw e

  pub all_fit-accepted : ((i : ℕ) → i < 29 → get_or f.all.sum i 0 + get_or all i 0 < 2 ^ 64)
      → ((i : ℕ) → i < 29 → get_or f.alive.sum i 0 + get_or alive i 0 < 2 ^ 64) → f.files < 256 → (add_call f all alive).number ≡ 0
  unfolding add_call folder_number
  all_fit-accepted a b h = rw (none_passes f.all.sum all 29 a, none_passes f.alive.sum alive 29 b, lt-leb 256 f.files h)
