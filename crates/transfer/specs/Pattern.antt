-- The transfer patterns (Fullsnes, "DMAPx, transfer unit select"): 0; 0 1; 0 0; 0 0 1 1; 0 1 2 3; 0 1 0 1; 6 as 2 and 7 as 3.
use Rattle.std.specs.Prelude.{ℕ, ◌+◌, ◌/◌, ◌%◌, ◌==◌}
use Rattle.common.specs.Pick.{pick}

-- the B-bus offset of the byte at a place of the pattern, by mode and place
unfoldable pub offset_of : ℕ → ℕ → ℕ
offset_of dmap u =
    pick (dmap % 8 == 1) (u % 2)
    (pick (dmap % 8 == 5) (u % 2)
    (pick (dmap % 8 == 3) (u / 2 % 2)
    (pick (dmap % 8 == 7) (u / 2 % 2)
    (pick (dmap % 8 == 4) (u % 4) 0))))

-- how many bytes a unit has
unfoldable pub unit_len : ℕ → ℕ
unit_len dmap =
    pick (dmap % 8 == 0) 1
    (pick (dmap % 8 == 1) 2
    (pick (dmap % 8 == 2) 2
    (pick (dmap % 8 == 6) 2 4)))

-- $2100 + BBAD + offset, with wrap inside the page
abbrev pub b_address : ℕ → ℕ → ℕ
b_address bbad off = 0x2100 + (bbad + off) % 256
