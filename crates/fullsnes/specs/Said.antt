-- Transfers and HDMA tables as the console is generally known (document 01, "From src/dma.rs"; Fullsnes was not at hand): patterns as a
-- table, DAS as a count, A1T as an address in its bank, an entry of a table as a number of lines.
use Rattle.std.specs.Prelude.{ℕ, zero, suc, ◌%◌, ◌<◌, Bool, true, List, [], ◌∷◌, ◌≢◌, ◌≡◌, eqb, ltb, get_or}
use Rattle.common.specs.Pick.{pick}
use Rattle.hdma.specs.Entry.{counted}
use Rattle.state.specs.declared.Dma.{Dma}
use Rattle.transfer.specs.Bits.{down}

-- ---- transfer unit patterns, by mode

-- which port each byte of a unit goes to, modes 0 to 7
abbrev pub patterns : List (List ℕ)
patterns =
    (0 ∷ [])
    ∷ (0 ∷ 1 ∷ [])
    ∷ (0 ∷ 0 ∷ [])
    ∷ (0 ∷ 0 ∷ 1 ∷ 1 ∷ [])
    ∷ (0 ∷ 1 ∷ 2 ∷ 3 ∷ [])
    ∷ (0 ∷ 1 ∷ 0 ∷ 1 ∷ [])
    ∷ (0 ∷ 0 ∷ [])
    ∷ (0 ∷ 0 ∷ 1 ∷ 1 ∷ [])
    ∷ []

-- bits 0-2 of DMAP are the mode
abbrev pub pattern_of : ℕ → List ℕ
pattern_of dmap = get_or patterns (dmap % 8) []

-- ---- DAS: the byte count, 0 for 65,536

-- how many bytes a DAS stands for
abbrev pub bytes_of : ℕ → ℕ
bytes_of das = pick (eqb das 0) 65536 das

-- DAS after n bytes of which none rewrites it
unfoldable pub das_after : ℕ → ℕ → ℕ
das_after zero das = das
das_after (suc n) das = down 65536 (das_after n das)

-- a transfer of n bytes, one at least: the last of them takes DAS to 0, and none before it
pub record Lasts (das n : ℕ) : Type 0 where
  pub some : 0 < n
  pub last : das_after n das ≡ 0
  pub going : (i : ℕ) → 0 < i → i < n → das_after i das ≢ 0

-- ---- an entry of an HDMA table: $01-$7F transfers on the first of so many lines, $81-$FF on each of so many less $80

-- how many lines an entry lasts
abbrev pub lines_of : ℕ → ℕ
lines_of c = c % 128

-- whether it transfers on line i of them
abbrev pub transfers_on : ℕ → ℕ → Bool
transfers_on c i = pick (ltb c 128) (eqb i 0) true

-- the DMA unit after n lines of a channel
unfoldable pub lines_after : ℕ → Dma → ℕ → Dma
lines_after zero d ch = d
lines_after (suc n) d ch = counted (lines_after n d ch) ch 0
