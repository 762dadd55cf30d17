-- The names of the 29 figures (document 02, request 4), by their places in a column.
use Rattle.std.specs.Prelude.{ℕ, ◌/◌, ◌%◌, List, [], ◌∷◌, ◌++◌, ltb}
use Rattle.common.specs.{Pick.pick, Table.Entry, Table.at, Table.find}
use Rattle.append.specs.{Number.decimal, Texts.codes}

-- what a channel has figures of: general bytes moved, HDMA units moved, table bytes read
abbrev pub kinds : List (Entry (List ℕ))
kinds = at 0 (codes "general ") ∷ at 1 (codes "units ") ∷ []

-- by their order, table bytes last
unfoldable pub kind_text : ℕ → List ℕ
kind_text k = find kinds k (codes "table ")

-- cycles held, split by the DMA state after the cycle
abbrev pub states : List (Entry (List ℕ))
states = at 24 (codes "held idle") ∷ at 25 (codes "held startup") ∷ at 26 (codes "held dma") ∷ at 27 (codes "held hdma") ∷ []

-- and the held cycles counted one by one, last
unfoldable pub state_text : ℕ → List ℕ
state_text i = find states i (codes "held all")

-- the figure at place i: for each kind the channels 0 to 7, then the cycles held
unfoldable pub name_text : ℕ → List ℕ
name_text i = pick (ltb i 24) (kind_text (i / 8) ++ decimal (i % 8)) (state_text i)
