-- A mean as a fraction in lowest terms.
use Rattle.std.specs.Prelude.{ℕ, zero, suc, ◌/◌, ◌%◌, Bool, ◌&&◌, eqb}
use Rattle.common.specs.Pick.{pick}
use Rattle.totals.specs.declared.mean.Fraction.{Fraction}

-- d divides both
abbrev pub divides_both : ℕ → ℕ → ℕ → Bool
divides_both s n d = eqb (s % d) 0 && eqb (n % d) 0

-- the largest number from 1 to d that divides both
unfoldable pub common_up_to : ℕ → ℕ → ℕ → ℕ
common_up_to s n zero = 1
common_up_to s n (suc d) = pick (divides_both s n (suc d)) (suc d) (common_up_to s n d)

-- the sum over the number of files, both divided by the largest that divides both; of no files 0/1
unfoldable pub mean_of : ℕ → ℕ → Fraction
mean_of s files =
    let d = common_up_to s files files in
    pick (eqb files 0) (record { over = 0; under = 1 }) (record { over = s / d; under = files / d })
