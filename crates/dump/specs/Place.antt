-- A place in work RAM as a person writes it (docs/BENCH.md), read as an offset ($7E:0000 first).
use Rattle.std.specs.Prelude.{ℕ, ◌+◌, ◌-◌, ◌*◌, ◌&&◌, Option, Some, None, List, eqb, ltb, length}
use Prim.Native.Char.{code}
use Rattle.common.specs.Pick.{pick}
use Rattle.fields.specs.Bytes.{byte_at, part_of}
use Rattle.reader.specs.Letter.{digit_of}

abbrev pub pair_by : Option ℕ → Option ℕ → Option ℕ
pair_by (Some x) (Some y) = pick (ltb x 16 && ltb y 16) (Some (x * 16 + y)) None
pair_by _ _ = None

-- the number of two digits in base 16
unfoldable pub pair_of : ℕ → ℕ → Option ℕ
pair_of a b = pair_by (digit_of a) (digit_of b)

-- $7E:0000 to $7F:FFFF, by the bank and the two bytes of the address
unfoldable pub offset_of : ℕ → ℕ → ℕ → Option ℕ
offset_of bank high low =
    pick (ltb bank 126) None
    (pick (ltb 127 bank) None
    (pick (ltb 255 high) None
    (pick (ltb 255 low) None (Some ((bank - 126) * 65536 + high * 256 + low)))))

abbrev pub offset_by : Option ℕ → Option ℕ → Option ℕ → Option ℕ
offset_by (Some bank) (Some high) (Some low) = offset_of bank high low
offset_by _ _ _ = None

-- two digits of the bank, and four from place k on
unfoldable pub six_of : List ℕ → ℕ → Option ℕ
six_of l k =
    offset_by (pair_of (byte_at l 0) (byte_at l 1)) (pair_of (byte_at l k) (byte_at l (k + 1))) (pair_of (byte_at l (k + 2)) (byte_at l (k + 3)))

-- `7E1234`, or `7E:1234`
unfoldable pub bare_of : List ℕ → Option ℕ
bare_of l = pick (eqb (length l) 6) (six_of l 2) (pick (eqb (length l) 7 && eqb (byte_at l 2) (code ":")) (six_of l 3) None)

-- the same, or with `$` in front
unfoldable pub offset_named : List ℕ → Option ℕ
offset_named l = pick (eqb (byte_at l 0) (code "$")) (bare_of (part_of l 1 (length l))) (bare_of l)
