-- Bodies bound are the file that is built of them, and a buffer with room shows what was put into it.
use Prim.Native.Nat.{ℕ, ◌+◌, ◌-◌, ◌≤◌, ◌<◌}
use mathlib.Core.List.{List, ◌++◌, append_assoc}
use mathlib.Core.Path.{◌≡◌}
use native.Mathlib.Omega.{arith}
use lib.ListN.{length, replicate, length-append, length-replicate}
use borrow.Author.Tests.{lt-ltb, le-ltb}
use Rattle.append.specs.Sheet.{Sheet, sheet, puts, shown_of}
use Rattle.append.proofs.Laws.{puts-room}
use Rattle.benchfile.specs.{File.file_check, Build.build}
use Rattle.benchfile.proofs.Built.{length-build}
use Rattle.assembler.specs.Bind.{size_of, fill_size, bound}
use Rattle.assembler.specs.Assemble.{checked, finished}

-- fresh buffers
pub kept : (n : ℕ) (l : List ℕ) → length l ≤ n → shown_of (puts (sheet (replicate n 0) 0) l) ≡ l
kept n l h =
    let room : 0 + length l ≤ length {A = ℕ} (replicate n 0) = rw (length-replicate {A = ℕ} n 0) (omega arith) in
    (puts-room l (replicate n 0) 0 room).0

size_small : (n : ℕ) → n < 65536 → size_of n ≡ n
unfolding size_of
size_small n h = rw (lt-ltb n 65536 h)

fill-small : (n : ℕ) → n < 65536 → fill_size (2 + n) ≡ n
unfolding fill_size
fill-small n h =
    let l : 2 ≤ 2 + n = omega arith in
    let e : 2 + n - 2 ≡ n = omega arith in
    rw (le-ltb (2 + n) 2 l, e) (size_small n h)

module _ (a b c d : List ℕ) where
  pub bound-build : length a ≡ 2 → length (build a b c d) ≤ 65536 → bound (a ++ b) c d ≡ build a b c d
  unfolding bound build
  bound-build two short =
      let n = length-build a b c d in
      let lb : length b < 65536 = omega arith in
      let lc : length c < 65536 = omega arith in
      let ld : length d < 65536 = omega arith in
      rw (length-append, two, fill-small (length b) lb, size_small (length c) lc, size_small (length d) ld)
      (simp append_assoc)

-- a file that file check accepts stays, where there is room
module _ (out f : List ℕ) (sound : file_check f ≡ 0) (room : length f ≤ length out) where
  abbrev put : Sheet
  put = puts (sheet out 0) f

  pub there : shown_of put ≡ f
  there = (puts-room f out 0 (omega arith)).0

  pub finished-file : (front rom script : List ℕ) → bound front rom script ≡ f → finished out front rom script ≡ put
  unfolding finished checked
  finished-file front rom script e = rw (e, there, sound)
