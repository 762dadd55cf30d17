-- Where the machine's bytes are (docs/PLAYER.md): its image without old bytes, then the numbers beside it.
use Rattle.std.specs.Prelude.{ℕ, ◌+◌, List, [], ◌∷◌}
use Rattle.fields.specs.Table.{Place, any, taken}
use Rattle.layout.specs.Layout.{image_size}

-- the numbers beside the image: next slot, kept, record length, the sum of work RAM
pub data Beside : Type 0 where
  slot kept length sum : Beside

-- where each stands behind the image, in 8 bytes, the sum in 4
abbrev pub beside : Beside → Place
beside slot = record { start = image_size; width = 8; kind = any }
beside kept = record { start = image_size + 8; width = 8; kind = any }
beside length = record { start = image_size + 16; width = 8; kind = any }
beside sum = record { start = image_size + 24; width = 4; kind = any }

-- all of them, in their order
abbrev pub of_beside : List Beside
of_beside = slot ∷ kept ∷ length ∷ sum ∷ []

-- how many bytes a machine has
abbrev pub machine_size : ℕ
machine_size = (beside sum).start + (beside sum).width

-- the next slot of the record
abbrev pub slot_at : List ℕ → ℕ
slot_at s = taken beside s slot

-- how many entries it keeps
abbrev pub count_at : List ℕ → ℕ
count_at s = taken beside s kept

-- its length in bytes
abbrev pub length_at : List ℕ → ℕ
length_at s = taken beside s length

-- the sum of work RAM
abbrev pub sum_at : List ℕ → ℕ
sum_at s = taken beside s sum
