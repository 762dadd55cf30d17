-- The cartridge (document 01, "Added by the port"; document 02, 1/12): address $8000 up is an offset into the lent ROM, which repeats where its
-- length is a power of two of at least 32,768; below $8000, and past the end of a ROM that does not repeat, no chip answers.
use Rattle.std.specs.Prelude.{ℕ, ◌+◌, ◌-◌, ◌*◌, ◌%◌, List, [], ◌∷◌, eqb, ltb, length, get_or}
use Rattle.std.specs.Int.Bits.{bit_and}
use Rattle.common.specs.{Pick.pick, Table.among}

-- (bank mod 128) x 32,768 + (address - $8000)
abbrev pub rom_offset : ℕ → ℕ → ℕ
rom_offset b a = b % 128 * 32768 + (a - 0x8000)

-- the lengths at which a ROM repeats: powers of two of at least 32,768, up to the longest ROM's
abbrev pub repeating : List ℕ
repeating = 32768 ∷ 65536 ∷ 131072 ∷ 262144 ∷ 524288 ∷ 1048576 ∷ 2097152 ∷ 4194304 ∷ []

-- where an offset lies in a ROM of n bytes: modulo n where it repeats
unfoldable pub rom_place : ℕ → ℕ → ℕ
rom_place n i = pick (among repeating n) (i % n) i

-- the byte at a place, and d at or past the end
abbrev pub rom_at : List ℕ → ℕ → ℕ → ℕ
rom_at rom i d = pick (ltb i (length rom)) (get_or rom i 0) d

-- what an address reads; d where no chip answers
abbrev pub rom_byte : List ℕ → ℕ → ℕ → ℕ → ℕ
rom_byte rom b a d = pick (ltb a 0x8000) d (rom_at rom (rom_place (length rom) (rom_offset b a)) d)

-- 6 for $8000 up in banks $80-$FF with MEMSEL bit 0 set, else 8
abbrev pub rom_cost : ℕ → ℕ → ℕ → ℕ
rom_cost memsel b a =
    pick (ltb a 0x8000) 8 (pick (ltb b 0x80) 8 (pick (eqb (bit_and memsel 1) 0) 8 6))
