-- A list made place by place, and a column made so over zeros.
use Prim.Native.Nat.{ℕ, zero, suc, ◌+◌, ◌<◌}
use mathlib.Core.List.{List, [], ◌∷◌, ◌++◌, append_assoc, append-nil}
use mathlib.Core.Logic.{⊎_elim}
use mathlib.Core.Path.{◌≡◌, refl, sym, ◌∙◌}
use native.Mathlib.Nat.{eq-or-lt_of_le, le_of_suc-le-suc}
use native.Mathlib.Numerals.{add-one}
use native.Mathlib.Omega.{arith}
use lib.ListN.{length, get_or, drop, set, length-append, replicate, get_or-append}
use lib.Seq.{drop-cons, set_at, get_or_at}
use Rattle.totals.specs.Column.{placed, plus_all, largest_all, file_all, column_with}
use Rattle.totals.specs.declared.Column.{Column}

module _ (f : ℕ → ℕ) where
  placed-length : (n : ℕ) → length (placed f n) ≡ n
  unfolding placed
  placed-length zero = refl
  placed-length (suc n) = let h = placed-length n in simp length-append (omega arith)

  -- the first n places made, the others as they were
  abbrev pub front : ℕ → List ℕ → List ℕ
  front n l = placed f n ++ drop n l

  pub front-more : (l : List ℕ) (i : ℕ) {v : ℕ} → i < length l → v ≡ f i → set (front i l) i v ≡ front (i + 1) l
  unfolding placed
  front-more l i {v} h e =
      rw (drop-cons l i 0 h, add-one, e)
      (set_at (placed f i) (get_or l i 0) (drop (suc i) l) (f i) i (placed-length i) ∙ sym (append_assoc (placed f i) (f i ∷ []) (drop (suc i) l)))

  pub placed_at : (n i : ℕ) → i < n → get_or (placed f n) i 0 ≡ f i
  unfolding placed
  placed_at zero i h = absurd (omega arith)
  placed_at (suc n) i h =
      ⊎_elim
      (λ e. rw e (get_or_at (placed f n) (f n) [] 0 n (placed-length n)))
      (λ l. get_or-append (placed f n) (f n ∷ []) 0 i (rw (placed-length n) l) ∙ placed_at n i l)
      (eq-or-lt_of_le (le_of_suc-le-suc h))

-- a column made as far as place n
abbrev pub up_to : Column → ℕ → List ℕ → ℕ → Column
up_to c number figures n =
    let zeros : List ℕ = replicate 29 0 in
    record { sum = front (plus_all c figures) n zeros; most = front (largest_all c number figures) n zeros; file = front (file_all c number figures) n zeros }

module _ (c : Column) (number : ℕ) (figures : List ℕ) where
  pub column-more : {o : Column} (i : ℕ) {m h : ℕ} → i < 29 → o ≡ up_to c number figures i → m ≡ largest_all c number figures i → h ≡ file_all c number figures i
      → record { sum = set o.sum i (plus_all c figures i); most = set o.most i m; file = set o.file i h } ≡ up_to c number figures (i + 1)
  column-more i l e p q =
      rw e (λ k. record {
        sum = front-more (plus_all c figures) (replicate 29 0) i l refl k;
        most = front-more (largest_all c number figures) (replicate 29 0) i l p k;
        file = front-more (file_all c number figures) (replicate 29 0) i l q k;
      })

  pub column-all : up_to c number figures 29 ≡ column_with c number figures
  unfolding column_with
  column-all = simp append-nil
