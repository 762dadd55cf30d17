-- Bits of masks and registers, and steps that wrap (document 01, "From src/dma.rs").
use Rattle.std.specs.Prelude.{ℕ, ◌+◌, ◌-◌, ◌*◌, ◌%◌, ◌^◌, Bool, not, ◌==◌, bit_and}
use Rattle.std.specs.Int.Count.{count_trailing_zeros}

-- the lowest set bit of an eight-bit mask: the count of zeros below it
abbrev pub lowest : ℕ → ℕ
lowest m = count_trailing_zeros 8 m

-- the mask without the bit of a channel
abbrev pub clear_bit : ℕ → ℕ → ℕ
clear_bit m ch = bit_and m (255 - 1 * 2 ^ (ch % 8) % 2 ^ 8)

-- whether any bit of the mask is set
abbrev pub flag_of : ℕ → ℕ → Bool
flag_of x mask = not (bit_and x mask == 0)

-- one down, with wrap at a size
abbrev pub down : ℕ → ℕ → ℕ
down size x = (x + (size - 1)) % size

-- one up, with wrap at a size
abbrev pub up : ℕ → ℕ → ℕ
up size x = (x + 1) % size
