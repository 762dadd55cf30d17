-- Where a script stands: the row to run next, how many of its calls were accepted, and how many of those were held.
use Rattle.std.specs.Prelude.{ℕ, ◌+◌, ◌%◌, ◌^◌, Bool, ◌==◌, nat_lt}
use Rattle.common.specs.Pick.{pick}
use Rattle.walk.specs.declared.stand.Stand.{Stand}

-- by its fields
abbrev pub stand : ℕ → ℕ → ℕ → Stand
stand next done held = record { next = next; done = done; held = held }

-- one more where it counts
abbrev pub up : ℕ → Bool → ℕ
up n counts = pick counts ((n + 1) % 2 ^ 16) n

-- one call more, by its refusal or 0 and whether it was held
unfoldable pub counted : Stand → ℕ → Bool → Stand
counted s number held = stand s.next (up s.done (number == 0)) (up s.held held)

-- after the last call of its count a row is over
unfoldable pub onward : Stand → ℕ → Stand
onward s count = pick (nat_lt s.done count) s (stand ((s.next + 1) % 2 ^ 64) 0 0)
