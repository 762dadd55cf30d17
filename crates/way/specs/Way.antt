-- Which way a cycle goes: the DMA unit waits or has nothing to do; it moves one byte of a general transfer between memory and a port of
-- the B bus; or anything else happens. What the first two say of the machine is proved (proofs/), and room inplace makes them on the bytes.
use Rattle.std.specs.Prelude.{ℕ, ◌-◌, Bool, not, ◌&&◌, ◌||◌, List, [], ◌∷◌, eqb, leb, ltb, length}
use Rattle.std.specs.Int.Bits.{bit_and}
use Rattle.common.specs.Pick.{pick}
use Rattle.asbytes.specs.Machine.{head_of}
use Rattle.asbytes.specs.Places.{machine_size, slot_at, count_at, length_at}
use Rattle.ring.specs.Refusal.{banks_off, record_off, rom_off}
use Rattle.bus.specs.Route.{route_of, memory}
use Rattle.layout.specs.Layout.{capacity}
use Rattle.ranges.specs.{Entry.entry_ok, Tests.all}
use Rattle.transfer.specs.Bits.{flag_of, down}
use Rattle.way.specs.Seen.{Seen, seen}
use Rattle.way.specs.declared.Way.{Way}
use Rattle.way.specs.declared.Way.TheVariants.{Full, Rest, Carry}

-- the ways by number, as the definitions below have them
abbrev pub way_number : Way → ℕ
way_number Full = 0
way_number Rest = 1
way_number Carry = 2

module _ (s : Seen) where
  -- both ports' buttons are those of the pad words
  abbrev pub pressed_tests : List Bool
  pressed_tests =
      eqb (bit_and s.word1 (65535 - 15)) s.buttons1 ∷ eqb (bit_and s.word2 (65535 - 15)) s.buttons2 ∷ []

  -- no automatic read; no new button; no general transfer to start; no old byte; the clock not at its end
  abbrev pub calm_tests : List Bool
  calm_tests =
      eqb s.auto 0
      ∷ all pressed_tests
      ∷ (eqb s.running 1 || eqb s.mdmaen 0)
      ∷ eqb s.olds 0
      ∷ not (eqb s.clock 18446744073709551615)
      ∷ []

  -- a wait; or the unit is idle and no pass pending
  abbrev pub waiting : Bool
  waiting = ltb 0 s.wait || (eqb s.pending 0 && eqb s.state 0)

  -- no wait, no pass pending, a general transfer with a channel in progress, and not its last byte
  abbrev pub due_tests : List Bool
  due_tests =
      eqb s.wait 0 ∷ eqb s.pending 0 ∷ eqb s.state 2 ∷ eqb s.present 1 ∷ not (eqb (down 65536 s.das) 0) ∷ []

  -- the A side leads to memory; the byte does not go to $2181-$2183
  abbrev pub trip_tests : List Bool
  trip_tests = memory (route_of s.a1b s.a1t) ∷ (flag_of s.dmap 0x80 || not (leb 0x2181 s.bside && ltb s.bside 0x2184)) ∷ []

  -- 1 a cycle that waits, 2 a byte moved, 0 anything else
  unfoldable pub turn_by : ℕ
  turn_by = pick waiting 1 (pick (all due_tests && all trip_tests) 2 0)

-- and that only of an image in the ranges
unfoldable pub kind_of : List ℕ → ℕ
kind_of s = pick (all (calm_tests (seen s))) (pick (entry_ok (head_of s)) (turn_by (seen s)) 0) 0

-- what is lent, and the counts, are in order
abbrev pub lent_tests : (low high room rom fresh slot kept : ℕ) → List Bool
lent_tests low high room rom fresh slot kept =
    not (banks_off low high)
    ∷ not (record_off room fresh)
    ∷ not (rom_off rom)
    ∷ not (leb (capacity fresh) slot)
    ∷ not (ltb (capacity fresh) kept)
    ∷ []

-- no event, no line due, no timer hit
abbrev pub plain_tests : ℕ → Bool → Bool → List Bool
plain_tests event line timer = eqb event 0 ∷ not line ∷ not timer ∷ []

-- the bytes of one machine and an accepted cycle: 1 or 2 as above, and 0 is no promise
unfoldable pub way_of : List ℕ → (low high room rom event : ℕ) → Bool → Bool → ℕ
way_of s low high room rom event line timer =
    pick (eqb (length s) machine_size)
    (pick (all (plain_tests event line timer) && all (lent_tests low high room rom (length_at s) (slot_at s) (count_at s)))
    (kind_of s) 0) 0
