-- Bytes put one after the other, and what then stands in the buffer.
use Prim.Native.Nat.{ℕ, zero, suc, ◌+◌, ◌≤◌, ◌<◌}
use mathlib.Core.List.{List, [], ◌∷◌, ◌++◌, append_assoc, append-nil, flat_map, foldl, foldl-append}
use mathlib.Core.Path.{◌≡◌, refl, sym, ap, subst, ◌∙◌}
use native.Mathlib.Numerals.{add-one}
use native.Mathlib.Nat.{add-zero, zero-add}
use native.Mathlib.Omega.{arith}
use lib.ListN.{length, take, set, get_or, replicate, length-set}
use lib.Seq.{take-suc, take-suc-set}
use Rattle.std.proofs.lemmas.Grind.{flat_map-append}
use Rattle.std.proofs.lemmas.List.{replicate-append-replicate}
use borrow.Author.Tests.{lt-ltb}
use Rattle.append.specs.Sheet.{Sheet, sheet, push, puts, shown_of}
use Rattle.append.specs.Lent.{holding, shown, keeping, putting}
use Rattle.append.specs.declared.Sheet.{Sheet as Lent}
use Rattle.append.specs.Texts.{each}

-- no byte
pub puts_none : (s : Sheet) → puts s [] ≡ s
unfolding puts
puts_none s = refl

-- two texts put, one after the other
pub then : (s : Sheet) {t u : Sheet} (a b : List ℕ) → t ≡ puts s a → u ≡ puts t b → u ≡ puts s (a ++ b)
unfolding puts
then s a b p q = q ∙ ap (λ (x : Sheet). puts x b) p ∙ sym (foldl-append push s a b)

-- with room, a byte is stored
pub push-room : (l : List ℕ) (n c : ℕ) → n < length l → push (sheet l n) c ≡ sheet (set l n c) (n + 1)
unfolding push
push-room l n c h = rw (lt-ltb n (length l) h)

-- with room for all of them the bytes stand behind what was there
pub puts-room : (xs l : List ℕ) (n : ℕ) → n + length xs ≤ length l
    → (shown_of (puts (sheet l n) xs) ≡ take n l ++ xs) × ((puts (sheet l n) xs).at ≡ n + length xs)
unfolding puts
puts-room [] l n h = (sym (append-nil (take n l)), omega arith)
puts-room (x ∷ xs) l n h =
    let here : n < length l = omega arith in
    let room : n + 1 + length xs ≤ length (set l n x) = simp length-set (omega arith) in
    let r = puts-room xs (set l n x) (n + 1) room in
    let t : take (n + 1) (set l n x) ≡ take n l ++ (x ∷ []) = rw add-one (take-suc-set l n x here) in
    let P : Sheet → Type 0 = λ (s : Sheet). (shown_of (puts s xs) ≡ take n l ++ (x ∷ xs)) × ((puts s xs).at ≡ n + suc (length xs)) in
    subst P (sym (push-room l n x here)) (r.0 ∙ rw t (append_assoc (take n l) (x ∷ []) xs), r.1 ∙ omega arith)

-- with `puts` opened: two texts, one after the other
pub put_both : (s : Sheet) (a b : List ℕ) → foldl push s (a ++ b) ≡ foldl push (foldl push s a) b
put_both s a b = foldl-append push s a b

-- one byte more of a list
pub put_more : (s : Sheet) (l : List ℕ) (i : ℕ) → i < length l → foldl push s (take (i + 1) l) ≡ push (foldl push s (take i l)) (get_or l i 0)
put_more s l i h = rw (add-one, take-suc l i 0 h) (foldl-append push s (take i l) (get_or l i 0 ∷ []))

-- the texts of no byte
pub put_no_texts : (s : Sheet) (g : ℕ → List ℕ) → foldl push s (flat_map g []) ≡ s
unfolding flat_map
put_no_texts s g = refl

-- the text of one byte more
pub put_more_texts : (s : Sheet) (g : ℕ → List ℕ) (l : List ℕ) (i : ℕ) → i < length l
    → foldl push s (flat_map g (take (i + 1) l)) ≡ foldl push (foldl push s (flat_map g (take i l))) (g (get_or l i 0))
unfolding flat_map
put_more_texts s g l i h =
    let e : take (i + 1) l ≡ take i l ++ (get_or l i 0 ∷ []) = rw add-one (take-suc l i 0 h) in
    let m : flat_map g (take (i + 1) l) ≡ flat_map g (take i l) ++ (g (get_or l i 0) ++ []) =
    ap (flat_map g) e ∙ flat_map-append g (take i l) (get_or l i 0 ∷ []) in
    ap (foldl push s) m ∙ foldl-append push s (flat_map g (take i l)) (g (get_or l i 0) ++ []) ∙ rw append-nil

-- the same byte once more
pub put_again : (s : Sheet) (c n : ℕ) → foldl push s (replicate (n + 1) c) ≡ push (foldl push s (replicate n c)) c
put_again s c n = rw (sym (replicate-append-replicate n 1 c)) (foldl-append push s (replicate n c) (c ∷ []))

-- the text of the last number
each_last : (f : ℕ → List ℕ) (n k : ℕ) → each f (suc n) k ≡ each f n k ++ f (k + n)
unfolding each
each_last f zero k = rw add-zero (append-nil (f k))
each_last f (suc n) k =
    let m : k + 1 + n ≡ k + suc n = omega arith in
    ap (λ (l : List ℕ). f k ++ l) (each_last f n (k + 1)) ∙ rw m (sym (append_assoc (f k) (each f n (k + 1)) (f (k + suc n))))

-- the texts of no number
pub put_no_numbers : (s : Sheet) (f : ℕ → List ℕ) (k : ℕ) → foldl push s (each f 0 k) ≡ s
unfolding each
put_no_numbers s f k = refl

-- the text of one number more
pub put_more_numbers : (s : Sheet) (f : ℕ → List ℕ) (n : ℕ) → foldl push s (each f (n + 1) 0) ≡ foldl push (foldl push s (each f n 0)) (f n)
put_more_numbers s f n = rw (add-one, each_last f n 0, zero-add) (foldl-append push s (each f n 0) (f n))

-- a sheet that a run goes on with is still the same buffer
pub then_kept : (s t u : Lent) → t ≡ keeping s t → u ≡ keeping t u → u ≡ keeping s u
then_kept s t u e f = f ∙ ap (λ (x : Lent). keeping x u) e

-- the same of a lent sheet: two texts put, one after the other
pub put_then : (s : Lent) {t u : Lent} (a b : List ℕ) → t ≡ putting s a → u ≡ putting t b → u ≡ putting s (a ++ b)
unfolding puts
put_then s a b p q = q ∙ ap (λ (x : Lent). putting x b) p ∙ ap (holding s) (sym (foldl-append push (shown s) a b))

-- what a function of puts needs, with `puts` opened
pub ruleset texts = (put_both, put_no_texts, put_more_texts, put_no_numbers, put_more_numbers)
