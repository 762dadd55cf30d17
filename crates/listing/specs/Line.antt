-- The line of an access (docs/MOVES.md): row, clock, who, read or write, address and byte, the byte of work RAM, and two marks.
use Rattle.std.specs.Prelude.{ℕ, ◌+◌, ◌/◌, ◌%◌, Bool, ◌||◌, List, [], ◌∷◌, ◌++◌, eqb, ltb}
use Rattle.common.specs.Pick.{pick}
use Rattle.append.specs.Number.{padded, glyph_of, hex_byte}
use Rattle.append.specs.Texts.{codes}
use Rattle.bus.specs.declared.access.Access.{Access}
use Rattle.touch.specs.Reach.{Reached, spot_number}
use Rattle.touch.specs.declared.who.Who.{Who}
use Rattle.touch.specs.declared.who.Who.TheVariants.{Cpu, Dma as General, Hdma}
use Rattle.listing.specs.declared.line.Line.{Line}

-- where a line stands, who it is about, and the number of the one byte of work RAM that is looked at, 131,072 for all of them
pub record Lined : Type 0 where
  pub row : ℕ
  pub clock : ℕ
  pub only : ℕ
  pub who : Who

-- the same, of what the code has
abbrev pub line_seen : Line → Lined
line_seen l = record { row = l.row; clock = l.clock; only = spot_number l.only; who = l.who }

-- the row in 5 columns, the clock in 10
unfoldable pub head_text : ℕ → ℕ → List ℕ
head_text row clock = padded 5 row ++ (codes " " ++ (padded 10 clock ++ codes "  "))

-- `CPU     `, `DMA 0   `, `HDMA 0  `
abbrev pub who_text : Who → List ℕ
who_text Cpu = codes "CPU     "
who_text (General n) = codes "DMA " ++ glyph_of n ∷ codes "   "
who_text (Hdma n) = codes "HDMA " ++ glyph_of n ∷ codes "  "

-- `write ` or `read  `
abbrev pub verb_text : Bool → List ℕ
verb_text write = pick write (codes "write ") (codes "read  ")

-- `$00:4302 = $10`
abbrev pub address_text : Access → List ℕ
address_text a =
    codes "$" ++ hex_byte a.bank ++ (codes ":" ++ hex_byte (a.addr / 256) ++ (hex_byte (a.addr % 256) ++ (codes " = $" ++ hex_byte a.byte)))

-- `  at $7E:1234`
abbrev pub place_text : ℕ → List ℕ
place_text spot = codes "  at $7" ++ glyph_of (spot / 65536 % 2 + 14) ∷ codes ":" ++ hex_byte (spot / 256 % 256) ++ hex_byte (spot % 256)

-- where there is a byte of work RAM
abbrev pub spot_text : ℕ → List ℕ
spot_text spot = pick (ltb spot 131072) (place_text spot) []

-- `  ! rewrites its own channel`
abbrev pub own_text : Bool → List ℕ
own_text own = pick own (codes "  ! rewrites its own channel") []

-- `  ! byte count 0: 65536 bytes`
abbrev pub zero_text : Bool → List ℕ
zero_text zero = pick zero (codes "  ! byte count 0: 65536 bytes") []

-- whether an access of a spot is listed: every one, or those of the one byte that is looked at
abbrev pub shows : ℕ → ℕ → Bool
shows only spot = eqb only 131072 || eqb only spot

-- the whole line
unfoldable pub access_text : Lined → Access → Reached → Bool → List ℕ
access_text l a r zero =
    pick (shows l.only r.spot)
    (head_text l.row l.clock
    ++ (who_text l.who
    ++ (verb_text a.write ++ (address_text a ++ (spot_text r.spot ++ (own_text r.own ++ (zero_text zero ++ codes "\n")))))))
    []
