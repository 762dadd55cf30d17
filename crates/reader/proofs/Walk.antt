-- A text read from a place on, until a test holds.
use Prim.Native.Nat.{ℕ, ◌+◌, ◌≤◌, ◌<◌}
use mathlib.Core.Bool.{Bool, true, false}
use mathlib.Core.List.{List}
use mathlib.Core.Path.{◌≡◌}
use native.Mathlib.Numerals.{add-one}
use Rattle.std.specs.Prelude.{Some, None}
use lib.ListN.{length, drop, get_or, drop_of_length-le}
use lib.Seq.{drop-cons}
use Rattle.reader.specs.declared.reader.Reader.{Reader}
use Rattle.reader.specs.Reader.{read_of, until_from}

module _ (test : Reader → ℕ → Bool) (r : Reader) (l : List ℕ) (i : ℕ) where
  pub until_here : i < length l → test r (get_or l i 0) ≡ true → until_from test i r (drop i l) ≡ Some i
  unfolding until_from
  until_here h e = rw (drop-cons l i 0 h, e)

  pub until_next : i < length l → {t : Reader} → t ≡ read_of r (get_or l i 0) → test r (get_or l i 0) ≡ false
      → until_from test i r (drop i l) ≡ until_from test (i + 1) t (drop (i + 1) l)
  unfolding until_from
  until_next h e f = rw (drop-cons l i 0 h, f, e, add-one)

  pub until_none : length l ≤ i → until_from test i r (drop i l) ≡ None
  unfolding until_from
  until_none h = rw (drop_of_length-le l h)
