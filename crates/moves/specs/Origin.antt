-- Which row each operation of the record came from (docs/MOVES.md): a ring of origins beside the record's slots.
use Rattle.std.specs.Prelude.{ℕ, ◌+◌, ◌*◌, ◌%◌, Bool, List, set}
use Rattle.common.specs.Pick.{pick}

-- a row's number, and how many of its cycles came before the operation
abbrev pub origin_of : ℕ → ℕ → ℕ
origin_of row done = row % 65536 * 65536 + done

-- a call that counts, an accepted operation, is noted at the slot of its entry
unfoldable pub noted : List ℕ → ℕ → ℕ → Bool → List ℕ
noted origins slot origin counts = pick counts (set origins slot origin) origins
