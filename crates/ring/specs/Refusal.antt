-- Document 01's table of refusals, line by line, and which lines each call tests. A number is 0 where nothing refuses.
use Rattle.std.specs.Prelude.{ℕ, ◌%◌, Bool, not, ◌||◌, eqb, ltb, leb}
use Rattle.common.specs.Pick.{pick}
use Rattle.layout.specs.Layout.{entry_size, capacity}
use Rattle.ranges.specs.Machine.{machine_ok}
use Rattle.ring.specs.declared.Bench.{Bench}

-- 1: a work RAM slice is not 65,536 bytes
abbrev pub banks_off : ℕ → ℕ → Bool
banks_off low high = not (eqb low 65536) || not (eqb high 65536)

-- 2: record length is 0, no multiple of an entry's size, or not fresh's length
abbrev pub length_off : ℕ → Bool
length_off length = eqb length 0 || not (eqb (length % entry_size) 0)

abbrev pub record_off : ℕ → ℕ → Bool
record_off length fresh = length_off length || not (eqb length fresh)

-- 3: ROM is too long
abbrev pub rom_off : ℕ → Bool
rom_off rom = ltb 4194304 rom

-- 4: machine breaks the ranges, next slot is not under the capacity, or kept is over it
abbrev pub bench_off : Bench → Bool
bench_off b = not (machine_ok b.machine) || leb (capacity b.length) b.slot || ltb (capacity b.length) b.kept

-- 6, answer: address outside $2134-$213F and $2140-$2143
abbrev pub address_off : ℕ → Bool
address_off a = ltb a 0x2134 || ltb 0x2143 a

-- 10: bit cycles outside 1 to 4,096
abbrev pub bits_off : ℕ → Bool
bits_off bitcycles = eqb bitcycles 0 || ltb 4096 bitcycles

-- lines in order: the first number that is not 0
abbrev pub also_of : ℕ → ℕ → ℕ
also_of first second = pick (eqb first 0) second first

-- what every operation tests: 1 2 3 4
unfoldable pub lent_number : Bench → ℕ → ℕ → ℕ → ℕ → ℕ
lent_number b low high length rom =
    pick (banks_off low high) 1 (pick (record_off length b.length) 2 (pick (rom_off rom) 3 (pick (bench_off b) 4 0)))

-- a cycle: and 5, event over 4; 7, the clock at 2^64 - 1
unfoldable pub cycle_number : ℕ → Bench → ℕ → ℕ
cycle_number lent b event =
    pick (ltb 4 event) (also_of lent 5) (pick (eqb b.machine.board.clock 18446744073709551615) (also_of lent 7) lent)

-- pad and plug: and 6, controller port over 1
unfoldable pub port_number : ℕ → ℕ → ℕ
port_number lent port = pick (ltb 1 port) (also_of lent 6) lent

-- port answer: and 6
unfoldable pub address_number : ℕ → ℕ → ℕ
address_number lent addr = pick (address_off addr) (also_of lent 6) lent

-- back: and 8, kept 0; 9, the newest entry breaks the ranges
unfoldable pub back_number : ℕ → ℕ → Bool → ℕ
back_number lent kept ok = pick (eqb kept 0) (also_of lent 8) (pick ok lent (also_of lent 9))

-- fresh: 1, the first two parts of 2, then 10
unfoldable pub fresh_number : ℕ → ℕ → ℕ → ℕ → ℕ
fresh_number low high length bitcycles = pick (banks_off low high) 1 (pick (length_off length) 2 (pick (bits_off bitcycles) 10 0))

-- page look: 1, then 12, page over 511
unfoldable pub look_number : ℕ → ℕ → ℕ → ℕ
look_number low high page = pick (banks_off low high) 1 (pick (ltb 511 page) 12 0)
