-- A decimal number that is written and read again.
use Prim.Native.Nat.{ℕ, zero, suc, ◌+◌, ◌*◌, ◌/◌, ◌%◌, ◌^◌, ◌≤◌, ◌<◌}
use mathlib.Core.Bool.{Bool, true, false}
use mathlib.Core.List.{List, [], ◌∷◌, ◌++◌, append_assoc}
use mathlib.Core.Path.{◌≡◌, refl, ap, ◌∙◌}
use native.Mathlib.Omega.{arith}
use native.Mathlib.Nat.{pow-succ'}
use lib.Dec.{ltb}
use borrow.Author.Tests.{lt-ltb, ltb-true, ltb-false}
use Rattle.common.specs.Pick.{pick}
use Rattle.reader.specs.declared.draft.Draft.{Draft}
use Rattle.reader.specs.declared.reader.Reader.{Reader}
use Rattle.reader.specs.Word.{word, blank_word, letter_of}
use Rattle.reader.specs.Draft.{draft}
use Rattle.reader.specs.Reader.{reader, plain_of, step_of, read_of}
use Rattle.bothways.proofs.{Quietly.quietly_or, Digits.ten_digit, Digits.ten_sign}
use Rattle.append.specs.Number.{decimal_in, decimal}
use Rattle.reader.specs.declared.kinds.{Phase.Phase, Expected.Expected, Kind.Kind}
use Rattle.reader.specs.declared.kinds.Emit.TheVariants as emits
use Rattle.reader.specs.declared.word.Form.TheVariants as forms

-- any mark m, and a quiet draft
module _ (m : Reader) (p : Phase) (s : Expected) (k : Kind) (x₁ x₂ x₃ x₄ : ℕ) where
  abbrev quiet : Draft
  quiet = draft p s k x₁ x₂ x₃ x₄ emits.Nothing

  -- the first digit
  one : (t : List ℕ) (y : ℕ) → y < 10 → quietly_or m (reader (blank_word forms.Between) quiet) ((48 + y) ∷ t) ≡ quietly_or m (reader (word forms.Decimal y 0) quiet) t
  unfolding quietly_or read_of step_of plain_of letter_of
  one t y h =
      let z : 0 * 10 + y ≡ y = omega arith in
      rw (ten_sign y h, ten_digit y h, lt-ltb y 10 h, lt-ltb y 10 h, z)

  -- one digit more
  more : (t : List ℕ) (v y : ℕ) → v < 65536 → y < 10 → quietly_or m (reader (word forms.Decimal v 0) quiet) ((48 + y) ∷ t) ≡ quietly_or m (reader (word forms.Decimal (v * 10 + y) 0) quiet) t
  unfolding quietly_or read_of step_of plain_of letter_of
  more t v y l h =
      let f : v < 72057594037927936 = omega arith in
      rw (ten_sign y h, ten_digit y h, lt-ltb y 10 h, lt-ltb v 72057594037927936 f)

  -- the digits of n, one more than k being room enough
  back : (k n : ℕ) (t : List ℕ) → n < 10 ^ suc k → n < 65536 → (b : Bool) → ltb n 10 ≡ b
      → quietly_or m (reader (blank_word forms.Between) quiet) (pick b ((48 + n) ∷ []) (decimal_in k (n / 10) ++ (48 + n % 10) ∷ []) ++ t) ≡ quietly_or m (reader (word forms.Decimal n 0) quiet) t
  unfolding decimal_in
  back zero n t h s true e = one t n (ltb-true n 10 e)
  back (suc k) n t h s true e = one t n (ltb-true n 10 e)
  back zero n t h s false e = let p : 10 ≤ n = ltb-false n 10 e in absurd (omega arith)
  back (suc k) n t h s false e =
      let p : n < 10 * 10 ^ suc k = rw pow-succ' at h in
      let q : n / 10 * 10 + n % 10 ≡ n = omega arith in
      ap (quietly_or m (reader (blank_word forms.Between) quiet)) (append_assoc (decimal_in (suc k) (n / 10)) ((48 + n % 10) ∷ []) t)
      ∙ back k (n / 10) ((48 + n % 10) ∷ t) (omega arith) (omega arith) (ltb (n / 10) 10) refl
      ∙ more t (n / 10) (n % 10) (omega arith) (omega arith)
      ∙ rw q

  -- a number under 65,536 comes back
  pub decimal-back : (n : ℕ) (t : List ℕ) → n < 65536 → quietly_or m (reader (blank_word forms.Between) quiet) (decimal n ++ t) ≡ quietly_or m (reader (word forms.Decimal n 0) quiet) t
  unfolding decimal decimal_in
  decimal-back n t s = back 19 n t (omega arith) s (ltb n 10) refl
