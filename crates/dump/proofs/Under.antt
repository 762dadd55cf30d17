-- A place that is named is one of work RAM.
use Rattle.std.proofs.Common.{ℕ, ◌+◌, ◌*◌, ◌<◌, ◌≡◌, ◌&&◌, true, Option, Some, None, IfSome, List, ltb, eqb, length, arith}
use Rattle.std.proofs.lemmas.Bool.{ltb-true, ltb-false}
use Prim.Native.Char.{code}
use Rattle.common.proofs.TableLaws.{pick_elim, pick_case}
use Rattle.fields.specs.Bytes.{byte_at, part_of}
use Rattle.reader.specs.Letter.{digit_of}
use Rattle.dump.specs.Place.{pair_by, pair_of, offset_of, offset_by, six_of, bare_of, offset_named}

abbrev Under : ℕ → Option ℕ → Type 0
Under n o = IfSome o (λ x. x < n)

digits : (x y : ℕ) → (ltb x 16 && ltb y 16) ≡ true → x * 16 + y < 256
digits x y e = grind (arith, ltb-true)

pair_by_under : (a b : Option ℕ) → Under 256 (pair_by a b)
pair_by_under None b = tt
pair_by_under (Some x) None = tt
pair_by_under (Some x) (Some y) = pick_case (Under 256) (ltb x 16 && ltb y 16) (digits x y) (λ e. tt)

-- two digits name a byte
pub pair_under : (a b : ℕ) → Under 256 (pair_of a b)
unfolding pair_of
pair_under a b = pair_by_under (digit_of a) (digit_of b)

offset_under : (bank high low : ℕ) → Under 131072 (offset_of bank high low)
unfolding offset_of
offset_under bank high low =
    pick_case (Under 131072) (ltb bank 126) (λ e. tt)
    (λ e. pick_case (Under 131072) (ltb 127 bank) (λ f. tt)
    (λ f. pick_case (Under 131072) (ltb 255 high) (λ g. tt)
    (λ g. pick_case (Under 131072) (ltb 255 low) (λ h. tt) (λ h. omega (arith, ltb-false 127 bank f, ltb-false 255 high g, ltb-false 255 low h)))))

offset_by_under : (a b c : Option ℕ) → Under 131072 (offset_by a b c)
offset_by_under None b c = tt
offset_by_under (Some x) None c = tt
offset_by_under (Some x) (Some y) None = tt
offset_by_under (Some x) (Some y) (Some z) = offset_under x y z

six_under : (s : List ℕ) (k : ℕ) → Under 131072 (six_of s k)
unfolding six_of
six_under s k =
    offset_by_under (pair_of (byte_at s 0) (byte_at s 1)) (pair_of (byte_at s k) (byte_at s (k + 1))) (pair_of (byte_at s (k + 2)) (byte_at s (k + 3)))

bare_under : (s : List ℕ) → Under 131072 (bare_of s)
unfolding bare_of
bare_under s =
    pick_elim (Under 131072) (eqb (length s) 6) (six_under s 2)
    (pick_elim (Under 131072) (eqb (length s) 7 && eqb (byte_at s 2) (code ":")) (six_under s 3) tt)

pub offset_named_under : (s : List ℕ) → IfSome (offset_named s) (λ at. at < 131072)
unfolding offset_named
offset_named_under s =
    pick_elim (Under 131072) (eqb (byte_at s 0) (code "$")) (bare_under (part_of s 1 (length s))) (bare_under s)
