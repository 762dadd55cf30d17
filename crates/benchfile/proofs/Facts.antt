-- What file check asks, fact by fact.
use Prim.Native.Nat.{ℕ, ◌≤◌}
use mathlib.Core.Bool.{true, ◌&&◌, and-eq-true_iff}
use mathlib.Core.List.{List}
use mathlib.Core.Path.{◌≡◌}
use lib.Dec.{leb, eqb}
use lib.ListN.{length}
use borrow.Author.Tests.{le-leb, eq-eqb, leb-true, eqb-true}
use Rattle.benchfile.specs.File.{start_of, size_of, end_of, body_of, adjoin, chained, sized, script_formed, sound}

-- `sound`, test by test
pub record Facts (f : List ℕ) : Type 0 where
  pub contents : 32 ≤ length f
  pub short : length f ≤ 65536
  pub first : start_of f 0 ≡ 32
  pub second : end_of f 0 ≡ start_of f 1
  pub third : end_of f 1 ≡ start_of f 2
  pub fourth : end_of f 2 ≡ start_of f 3
  pub last : end_of f 3 ≡ length f
  pub two : size_of f 0 ≡ 2
  pub least : 1 ≤ size_of f 1
  pub most : size_of f 1 ≤ 4096
  pub rows : script_formed (body_of f 3) ≡ true

module _ (f : List ℕ) where
  pub facts : sound f ≡ true → Facts f
  unfolding sound chained sized
  facts h =
      let (a, rows) = (and-eq-true_iff (leb 32 (length f) && leb (length f) 65536 && chained f && sized f) (script_formed (body_of f 3))).0 h in
      let (b, sizes) = (and-eq-true_iff (leb 32 (length f) && leb (length f) 65536 && chained f) (sized f)).0 a in
      let (c, bodies) = (and-eq-true_iff (leb 32 (length f) && leb (length f) 65536) (chained f)).0 b in
      let (contents, short) = (and-eq-true_iff (leb 32 (length f)) (leb (length f) 65536)).0 c in
      let (d, most) = (and-eq-true_iff (eqb (size_of f 0) 2 && leb 1 (size_of f 1)) (leb (size_of f 1) 4096)).0 sizes in
      let (two, least) = (and-eq-true_iff (eqb (size_of f 0) 2) (leb 1 (size_of f 1))).0 d in
      let (e, last) = (and-eq-true_iff (eqb (start_of f 0) 32 && adjoin f 0 1 && adjoin f 1 2 && adjoin f 2 3) (eqb (end_of f 3) (length f))).0 bodies in
      let (g, fourth) = (and-eq-true_iff (eqb (start_of f 0) 32 && adjoin f 0 1 && adjoin f 1 2) (adjoin f 2 3)).0 e in
      let (i, third) = (and-eq-true_iff (eqb (start_of f 0) 32 && adjoin f 0 1) (adjoin f 1 2)).0 g in
      let (first, second) = (and-eq-true_iff (eqb (start_of f 0) 32) (adjoin f 0 1)).0 i in
      record {
        contents = leb-true 32 (length f) contents;
        short = leb-true (length f) 65536 short;
        first = eqb-true (start_of f 0) 32 first;
        second = eqb-true (end_of f 0) (start_of f 1) second;
        third = eqb-true (end_of f 1) (start_of f 2) third;
        fourth = eqb-true (end_of f 2) (start_of f 3) fourth;
        last = eqb-true (end_of f 3) (length f) last;
        two = eqb-true (size_of f 0) 2 two;
        least = leb-true 1 (size_of f 1) least;
        most = leb-true (size_of f 1) 4096 most;
        rows = rows;
      }

  pub sound-by : Facts f → sound f ≡ true
  unfolding sound chained sized
  sound-by t =
      simp (
        le-leb 32 (length f) t.contents,
        le-leb (length f) 65536 t.short,
        eq-eqb (start_of f 0) 32 t.first,
        eq-eqb (end_of f 0) (start_of f 1) t.second,
        eq-eqb (end_of f 1) (start_of f 2) t.third,
        eq-eqb (end_of f 2) (start_of f 3) t.fourth,
        eq-eqb (end_of f 3) (length f) t.last,
        eq-eqb (size_of f 0) 2 t.two,
        le-leb 1 (size_of f 1) t.least,
        le-leb (size_of f 1) 4096 t.most,
        t.rows,
      )
