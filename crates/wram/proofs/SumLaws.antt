-- The sum of the banks: bytes added one after the other; a byte put at a place; old bytes that go back.
use Rattle.std.proofs.Common.{Option, None, Some, ◌≡◌, ℕ, zero, suc, ◌+◌, ◌-◌, ◌*◌, ◌%◌, ◌^◌, ◌<◌, ◌≤◌, min, Bool, true, false, not, ◌&&◌, eqb, ltb, List, [], ◌∷◌, ◌++◌, length, get_or, take, set, sym, refl, ap, ◌∙◌, true≢false, length-set, get_or-set_other, take-suc, get_or-set_same, ltb-true, le-ltb, lt-ltb, eq-eqb, eqb-true}
use Rattle.std.proofs.lemmas.List.{length-take, get_or-take}
use mathlib.Core.Bool.{beq, and-eq-true_iff}
use native.Mathlib.{Decide.dec_lt, Nat.mod-add-mod, Omega.arith}
use lib.Seq.{set_out}
use Rattle.common.specs.Pick.{pick}
use Rattle.wram.specs.Banks.{Banks, peeked, poked}
use Rattle.wram.specs.Olds.{Olds, no_old, old_place, back_from, put_back}
use Rattle.wram.specs.Change.{same_place, first_there, inside, counts, stands, stood, change_of}
use Rattle.wram.specs.Sum.{total, ram_sum, follows}
use Rattle.wram.specs.declared.{Old.Old, Place.Place, sum.Change.Change}
use Rattle.wram.specs.declared.Place.TheVariants.{Bank7E, Bank7F}

-- ---- added up

total-last : (l : List ℕ) (x : ℕ) → total (l ++ (x ∷ [])) ≡ total l + x
unfolding total
total-last [] x = omega arith
total-last (y ∷ l) x = omega (arith, total-last l x)

-- a loop that adds up: the first i bytes are done
abbrev pub Added : List ℕ → ℕ → ℕ → Type 0
Added l sum i = (i ≤ length l) × (sum ≡ total (take i l) % 2 ^ 32)

pub added_none : (l : List ℕ) → Added l 0 0
unfolding total
added_none l = (omega arith, refl)

pub added_next : (l : List ℕ) (sum i : ℕ) {more : ℕ} → Added l sum i → i < length l → more ≡ (sum + get_or l i 0) % 2 ^ 32 → Added l more (i + 1)
added_next l sum i a h e =
    let t : total (take (suc i) l) ≡ total (take i l) + get_or l i 0 = ap total (take-suc l i 0 h) ∙ total-last (take i l) (get_or l i 0) in
    let n : i + 1 ≡ suc i = omega arith in
    rw n (omega (arith, h), e ∙ omega (arith, a.1, t))

-- ---- a byte put at a place

-- both banks added up
abbrev whole : Banks → ℕ
whole b = total b.low + total b.high

total-set : (l : List ℕ) (i v : ℕ) → i < length l → total (set l i v) + get_or l i 0 ≡ total l + v
unfolding total
total-set [] i v h = absurd (omega arith)
total-set (x ∷ l) zero v h = omega arith
total-set (x ∷ l) (suc i) v h = omega (arith, total-set l i v (omega (arith, h)))

-- with the byte that it replaces, where the bank has one there
bank-set : (l : List ℕ) (a v : ℕ) → total (set l a v) + pick (ltb a (length l)) (get_or l a 0) 0 ≡ total l + pick (ltb a (length l)) v 0
bank-set l a v = elim (dec_lt a (length l)) [
  | yes h ↦ rw (lt-ltb a (length l) h) (total-set l a v h)
  | no h ↦ rw (le-ltb a (length l) (omega arith), set_out l a v (omega arith)) refl
]

whole-poked : (b : Banks) (p : Option Place) (v : ℕ) → whole (poked b p v) + pick (inside b p) (peeked b p) 0 ≡ whole b + pick (inside b p) v 0
whole-poked b None v = refl
whole-poked b (Some (Bank7E a)) v = omega (arith, bank-set b.low a v)
whole-poked b (Some (Bank7F a)) v = omega (arith, bank-set b.high a v)

inside-poked : (b : Banks) (p q : Option Place) (v : ℕ) → inside (poked b p v) q ≡ inside b q
inside-poked b None q v = refl
inside-poked b (Some (Bank7E a)) None v = refl
inside-poked b (Some (Bank7E a)) (Some (Bank7E c)) v = rw (length-set b.low a v) refl
inside-poked b (Some (Bank7E a)) (Some (Bank7F c)) v = refl
inside-poked b (Some (Bank7F a)) None v = refl
inside-poked b (Some (Bank7F a)) (Some (Bank7E c)) v = refl
inside-poked b (Some (Bank7F a)) (Some (Bank7F c)) v = rw (length-set b.high a v) refl

-- read back there
peeked-same : (b : Banks) (p : Option Place) (v : ℕ) → inside b p ≡ true → peeked (poked b p v) p ≡ v
peeked-same b None v h = absurd (true≢false (sym h))
peeked-same b (Some (Bank7E a)) v h = get_or-set_same b.low a v 0 (ltb-true a (length b.low) h)
peeked-same b (Some (Bank7F a)) v h = get_or-set_same b.high a v 0 (ltb-true a (length b.high) h)

-- ---- places of old bytes

beq_same : (h k : Bool) → beq h k ≡ true → h ≡ k
beq_same true true q = refl
beq_same true false q = sym q
beq_same false true q = q
beq_same false false q = refl

-- two old bytes of one place
module _ (o p : Old) (e : same_place o p ≡ true) where
  addr_same : o.addr ≡ p.addr
  addr_same = eqb-true o.addr p.addr ((and-eq-true_iff (eqb o.addr p.addr) (beq o.high p.high)).0 e).0

  high_same : o.high ≡ p.high
  high_same = beq_same o.high p.high ((and-eq-true_iff (eqb o.addr p.addr) (beq o.high p.high)).0 e).1

  one_place : ◌≡◌ {A = Option Place} (Some (old_place o)) (Some (old_place p))
  one_place = λ i. Some (pick (high_same i) (Bank7F (addr_same i)) (Bank7E (addr_same i)))

  -- they are the first of it together, or neither is
  first-same : (n : ℕ) (olds : Olds) → first_there n olds o ≡ first_there n olds p
  unfolding first_there
  first-same zero olds = refl
  first-same (suc n) olds =
      let x = get_or olds.items n no_old in
      λ i. first-same n olds i && not (eqb x.addr (addr_same i) && beq x.high (high_same i))

-- a byte put at another place
module _ (o p : Old) (b : Banks) (v : ℕ) where
  pick_other : (h k : Bool) → eqb o.addr p.addr && beq h k ≡ false
      → peeked (poked b (Some (pick k (Bank7F p.addr) (Bank7E p.addr))) v) (Some (pick h (Bank7F o.addr) (Bank7E o.addr)))
      ≡ peeked b (Some (pick h (Bank7F o.addr) (Bank7E o.addr)))
  pick_other true true q = get_or-set_other b.high p.addr o.addr v 0 (λ e. true≢false (rw (eq-eqb o.addr p.addr e) at q))
  pick_other true false q = refl
  pick_other false true q = refl
  pick_other false false q = get_or-set_other b.low p.addr o.addr v 0 (λ e. true≢false (rw (eq-eqb o.addr p.addr e) at q))

  other_place : same_place o p ≡ false → peeked (poked b (Some (old_place p)) v) (Some (old_place o)) ≡ peeked b (Some (old_place o))
  other_place e = pick_other o.high p.high e

-- ---- old bytes that go back

-- s and s' are what stands at some places before and after a byte v takes the place of w; one place more, where w' stands after it
module _ (s s' v w w' : ℕ) where
  same_more : (first here : Bool) → (here ≡ true → w' ≡ v) → s' + pick (not first && here) w 0 ≡ s + pick (not first && here) v 0
      → s' + pick (first && here) w' 0 + pick (not (first && false) && here) w 0 ≡ s + pick (first && here) w 0 + pick (not (first && false) && here) v 0
  same_more true true e h = omega (arith, e refl, h)
  same_more true false e h = omega (arith, h)
  same_more false true e h = omega (arith, h)
  same_more false false e h = omega (arith, h)

  other-more : (first here : Bool) → s' + pick (not first && here) w 0 ≡ s + pick (not first && here) v 0
      → s' + w' + pick (not (first && true) && here) w 0 ≡ s + w' + pick (not (first && true) && here) v 0
  other-more true here h = omega (arith, h)
  other-more false true h = omega (arith, h)
  other-more false false h = omega (arith, h)

module _ (olds : Olds) where
  abbrev old : ℕ → Old
  old n = get_or olds.items n no_old

  -- what stands at the place of old byte n, where it counts
  abbrev term : ℕ → Banks → ℕ
  term n b = pick (counts n olds b) (peeked b (Some (old_place (old n)))) 0

  -- a byte v put at the place of x
  module _ (b : Banks) (x : Old) (v : ℕ) where
    abbrev p : Option Place
    p = Some (old_place x)

    abbrev b' : Banks
    b' = poked b p v

    -- it replaces what stands there, if one of the first n old bytes is of that place
    abbrev Moves : ℕ → Bool → Type 0
    Moves n first = stands n olds b' + pick (not first && inside b p) (peeked b p) 0 ≡ stands n olds b + pick (not first && inside b p) v 0

    same_step : (n : ℕ) → same_place (old n) x ≡ true → Moves n (first_there n olds x) → Moves (suc n) (first_there n olds x && false)
    unfolding stands
    same_step n e h =
        let q = one_place (old n) x e in
        let f = first-same (old n) x e n olds in
        let after : term n b' ≡ pick (first_there n olds x && inside b p) (peeked b' p) 0 = λ i. pick (f i && (ap (inside b') q ∙ inside-poked b p p v) i) (peeked b' (q i)) 0 in
        let before : term n b ≡ pick (first_there n olds x && inside b p) (peeked b p) 0 = λ i. pick (f i && inside b (q i)) (peeked b (q i)) 0 in
        rw (after, before) (same_more (stands n olds b) (stands n olds b') v (peeked b p) (peeked b' p) (first_there n olds x) (inside b p) (peeked-same b p v) h)

    other_step : (n : ℕ) → same_place (old n) x ≡ false → Moves n (first_there n olds x) → Moves (suc n) (first_there n olds x && true)
    unfolding stands
    other_step n e h =
        let q = Some (old_place (old n)) in
        let after : term n b' ≡ term n b = λ i. pick (first_there n olds (old n) && inside-poked b p q v i) (other_place (old n) x b v e i) 0 in
        rw after (other-more (stands n olds b) (stands n olds b') v (peeked b p) (term n b) (first_there n olds x) (inside b p) h)

    step : (n : ℕ) (same : Bool) → same_place (old n) x ≡ same → Moves n (first_there n olds x) → Moves (suc n) (first_there n olds x && not same)
    step n true e h = same_step n e h
    step n false e h = other_step n e h

    moves : (n : ℕ) → Moves n (first_there n olds x)
    unfolding stands first_there
    moves zero = refl
    moves (suc n) = step n (same_place (old n) x) refl (moves n)

  stood-poked : (b : Banks) (q : Option Place) (v n : ℕ) → stood n olds (poked b q v) ≡ stood n olds b
  unfolding stood
  stood-poked b q v zero = refl
  stood-poked b q v (suc n) = λ i. stood-poked b q v n i + pick (first_there n olds (old n) && inside-poked b q (Some (old_place (old n))) v i) (old n).byte 0

  -- the last of them, put back first: s is what stands at the others' places and t what stood there, w the byte that it takes the place of
  last-back : (first here : Bool) (s s' t w v all all' end : ℕ) → end + s' ≡ all' + t → all' + pick here w 0 ≡ all + pick here v 0
      → s' + pick (not first && here) w 0 ≡ s + pick (not first && here) v 0
      → end + (s + pick (first && here) w 0) ≡ all + (t + pick (first && here) v 0)
  last-back true true s s' t w v all all' end p q r = omega (arith, p, q, r)
  last-back true false s s' t w v all all' end p q r = omega (arith, p, q, r)
  last-back false true s s' t w v all all' end p q r = omega (arith, p, q, r)
  last-back false false s s' t w v all all' end p q r = omega (arith, p, q, r)

  -- with what stands now the banks before the operation are the banks now with what stood there
  whole_back : (n : ℕ) (b : Banks) → whole (back_from n olds b) + stands n olds b ≡ whole b + stood n olds b
  unfolding back_from stands stood
  whole_back zero b = refl
  whole_back (suc n) b =
      let q = Some (old_place (old n)) in
      let v = (old n).byte in
      let c = poked b q v in
      let ih = whole_back n c ∙ ap (λ (k : ℕ). whole c + k) (stood-poked b q v n) in
      last-back (first_there n olds (old n)) (inside b q) (stands n olds b) (stands n olds c) (stood n olds b) (peeked b q) v (whole b) (whole c) (whole (back_from n olds c)) ih
      (whole-poked b q v) (moves b (old n) v n)

-- a loop that looks for the place among the first n old bytes: not there so far, and there
module _ (olds : Olds) (o : Old) (i n : ℕ) {same : Bool} (e : same ≡ same_place (get_or (take n olds.items) i no_old) o) (h : i < length (take n olds.items)) where
  here-so : same ≡ same_place (get_or olds.items i no_old) o
  here-so = e ∙ ap (λ (x : Old). same_place x o) (get_or-take n olds.items i no_old (omega (arith, h, length-take n olds.items)))

  pub not-there : first_there i olds o ≡ true → same ≡ false → first_there (i + 1) olds o ≡ true
  unfolding first_there
  not-there f g = let k : i + 1 ≡ suc i = omega arith in rw k (λ j. f j && not ((sym here-so ∙ g) j))

  pub there : same ≡ true → false ≡ first_there n olds o
  unfolding first_there
  there g =
      let x = first_there i olds o in
      let k : suc i ≤ n = omega (arith, h, length-take n olds.items) in
      sym (gone n k ((λ j. x && not ((sym here-so ∙ g) j)) ∙ and-false x))
    where
      and-false : (x : Bool) → x && false ≡ false
      and-false true = refl
      and-false false = refl

      gone : (n : ℕ) → i < n → first_there (suc i) olds o ≡ false → first_there n olds o ≡ false
      gone (suc n) l f = elim (dec_lt i n) [
        | yes m ↦ λ j. gone n m f j && not (same_place (get_or olds.items n no_old) o)
        | no m ↦ let e : n ≡ i = omega (arith, l, m) in ap (λ (k : ℕ). first_there (suc k) olds o) e ∙ f
      ]
      gone zero l f = absurd (omega arith)

-- a loop that goes through the n old bytes: i are done
pub record Exchanged (n : ℕ) (olds : Olds) (b : Banks) (up down i : ℕ) : Type 0 where
  pub done : i ≤ n
  pub few : n ≤ 4
  pub up_is : up ≡ stands i olds b
  pub down_is : down ≡ stood i olds b
  pub up-most : up ≤ 255 * i
  pub down-most : down ≤ 255 * i

add-zero : (x : ℕ) → x + 0 ≡ x
add-zero x = omega arith

module _ (n : ℕ) (olds : Olds) (b : Banks) where
  pub exchanged-none : n ≤ 4 → Exchanged n olds b 0 0 0
  unfolding stands stood
  exchanged-none h = record { done = omega arith; few = h; up_is = refl; down_is = refl; up-most = omega arith; down-most = omega arith }

  -- old byte i counts, and does not
  module _ (xs : List Old) {up down i : ℕ} (x : Exchanged n olds b up down i) (held : xs ≡ take n olds.items) (in_xs : i < length xs) {p : Place} {first here : Bool}
      (ep : p ≡ old_place (get_or xs i no_old)) (ef : first ≡ first_there i olds (get_or xs i no_old)) (eh : here ≡ inside b (Some p)) where
    h : i < n
    h = omega (arith, in_xs, ap length held, length-take n olds.items)

    eo : get_or xs i no_old ≡ get_or olds.items i no_old
    eo = ap (λ (ys : List Old). get_or ys i no_old) held ∙ get_or-take n olds.items i no_old h

    counts_so : (first && here) ≡ counts i olds b
    counts_so =
        let f = ef ∙ ap (first_there i olds) eo in
        let g = eh ∙ ap (λ (q : Place). inside b (Some q)) (ep ∙ ap old_place eo) in
        λ j. f j && g j

    pub counted : (first && here) ≡ true → {w : ℕ} → w ≡ peeked b (Some p) → w < 256 → (get_or xs i no_old).byte < 256 → Exchanged n olds b (up + w) (down + (get_or xs i no_old).byte) (i + 1)
    unfolding stands stood
    counted t {w} ew fw fo =
        let k : i + 1 ≡ suc i = omega arith in
        let c = sym t ∙ counts_so in
        let e = ew ∙ ap (λ (q : Place). peeked b (Some q)) (ep ∙ ap old_place eo) in
        let q = get_or olds.items i no_old in
        rw k
        (record {
          done = omega (arith, h);
          few = x.few;
          up_is = (λ j. x.up_is j + e j) ∙ (λ j. stands i olds b + pick (c j) (peeked b (Some (old_place q))) 0);
          down_is = (λ j. x.down_is j + (eo j).byte) ∙ (λ j. stood i olds b + pick (c j) q.byte 0);
          up-most = omega (arith, x.up-most, fw);
          down-most = omega (arith, x.down-most, fo);
        })

    pub uncounted : (first && here) ≡ false → Exchanged n olds b up down (i + 1)
    unfolding stands stood
    uncounted t =
        let k : i + 1 ≡ suc i = omega arith in
        let c = sym t ∙ counts_so in
        let q = get_or olds.items i no_old in
        rw k
        (record {
          done = omega (arith, h);
          few = x.few;
          up_is = x.up_is ∙ sym (add-zero (stands i olds b)) ∙ (λ j. stands i olds b + pick (c j) (peeked b (Some (old_place q))) 0);
          down_is = x.down_is ∙ sym (add-zero (stood i olds b)) ∙ (λ j. stood i olds b + pick (c j) q.byte 0);
          up-most = omega (arith, x.up-most);
          down-most = omega (arith, x.down-most);
        })

-- ---- a sum that follows the banks

-- the same residue, with the same added to both
cancel : (x z u : ℕ) → (x + u) % 2 ^ 32 ≡ (z + u) % 2 ^ 32 → x % 2 ^ 32 ≡ z % 2 ^ 32
cancel x z u h = omega (arith, h)

shift : (x z u : ℕ) → x % 2 ^ 32 ≡ z % 2 ^ 32 → (x + u) % 2 ^ 32 ≡ (z + u) % 2 ^ 32
shift x z u h = omega (arith, h)

below : (x : ℕ) → x < 2 ^ 32 → x ≡ x % 2 ^ 32
below x h = omega (arith, h)

-- what makes a number up to the next multiple
abbrev rest : ℕ → ℕ
rest x = 2 ^ 32 - x % 2 ^ 32

rest_up : (x u : ℕ) → (u + (rest x + x)) % 2 ^ 32 ≡ u % 2 ^ 32
rest_up x u = omega arith

-- so much more and so much less
follow-by : (sum up down : ℕ) (b c : Banks) {r : ℕ} → whole c + down ≡ whole b + up → (r + down) % 2 ^ 32 ≡ (sum + up) % 2 ^ 32 → r < 2 ^ 32 → r ≡ follows sum b c
unfolding follows ram_sum
follow-by sum up down b c {r} h d fit =
    let l = whole b in
    let n = whole c in
    let y = rest l in
    let near : (r + up) % 2 ^ 32 ≡ (sum + n + y + up) % 2 ^ 32 =
    sym (rest_up l (r + up))
    ∙ ap (λ (k : ℕ). k % 2 ^ 32) {y = r + down + (n + y)} (omega (arith, h))
    ∙ shift (r + down) (sum + up) (n + y) d
    ∙ ap (λ (k : ℕ). k % 2 ^ 32) {y = sum + n + y + up} (omega arith) in
    below r fit
    ∙ cancel r (sum + n + y) up near
    ∙ ap (λ (k : ℕ). k % 2 ^ 32) {y = n + (sum + y)} (omega arith)
    ∙ sym (mod-add-mod n (2 ^ 32) (sum + y))
    ∙ ap (λ (k : ℕ). k % 2 ^ 32) {y = sum + n % 2 ^ 32 + y} (omega arith)

module _ (sum : ℕ) (b : Banks) where
  -- after an operation that overwrote old bytes, and once they go back
  module _ (olds : Olds) {x : Change} (is : x ≡ change_of olds b) where
    change-is : whole (put_back olds b) + x.stands ≡ whole b + x.stood
    unfolding put_back
    change-is = rw is (whole_back olds (min olds.count 4) b)

    pub follow-after : {r : ℕ} → (r + x.stood) % 2 ^ 32 ≡ (sum + x.stands) % 2 ^ 32 → r < 2 ^ 32 → r ≡ follows sum (put_back olds b) b
    follow-after d fit = follow-by sum x.stands x.stood (put_back olds b) b (sym change-is) d fit

    pub follow-before : {r : ℕ} → (r + x.stands) % 2 ^ 32 ≡ (sum + x.stood) % 2 ^ 32 → r < 2 ^ 32 → r ≡ follows sum b (put_back olds b)
    follow-before d fit = follow-by sum x.stood x.stands b (put_back olds b) change-is d fit

  -- a byte put where the banks have a place, and where they have none
  module _ (p : Option Place) (v : ℕ) {here : Bool} (is : here ≡ inside b p) where
    pub follow-put : {w r : ℕ} → here ≡ true → w ≡ peeked b p → (r + w) % 2 ^ 32 ≡ (sum + v) % 2 ^ 32 → r < 2 ^ 32 → r ≡ follows sum b (poked b p v)
    follow-put {w} {r} t q d fit =
        follow-by sum v (peeked b p) b (poked b p v) (rw (sym is ∙ t) at (whole-poked b p v)) (ap (λ (k : ℕ). (r + k) % 2 ^ 32) (sym q) ∙ d) fit

    pub follow-out : here ≡ false → sum < 2 ^ 32 → sum ≡ follows sum b (poked b p v)
    follow-out t h = follow-by sum 0 0 b (poked b p v) (rw (sym is ∙ t) at (whole-poked b p v)) refl h

-- the banks as they were
pub follow-none : (sum : ℕ) (b : Banks) → sum < 2 ^ 32 → follows sum b b ≡ sum
follow-none sum b h = sym (follow-by sum 0 0 b b refl refl h)

pub sum_below : (b : Banks) → ram_sum b < 2 ^ 32
unfolding ram_sum
sum_below b = omega arith

-- a true sum stays true
pub follow-true : (b c : Banks) → follows (ram_sum b) b c ≡ ram_sum c
unfolding follows ram_sum
follow-true b c = omega arith
