-- What the bytes overwritten say of the sum: for contracts of private functions; no definition of a call needs these.
use Rattle.std.specs.Prelude.{ℕ, zero, suc, ◌+◌, min, Bool, true, false, Option, None, Some, not, ◌&&◌, length, get_or, ◌==◌, nat_lt, slice_index_or}
use Rattle.std.specs.Bool.{beq}
use Rattle.common.specs.Pick.{pick}
use Rattle.wram.specs.Banks.{Banks, peeked}
use Rattle.wram.specs.Olds.{Olds, no_old, old_place}
use Rattle.wram.specs.declared.{Old.Old, Place.Place, sum.Change.Change}
use Rattle.wram.specs.declared.Place.TheVariants.{Bank7E, Bank7F}

-- whether two old bytes are of one place
abbrev pub same_place : Old → Old → Bool
same_place o p = o.addr == p.addr && beq o.high p.high

-- none of the first n old bytes is of the same place
unfoldable pub first_there : ℕ → Olds → Old → Bool
first_there zero olds o = true
first_there (suc n) olds o = first_there n olds o && not (same_place (slice_index_or olds.items n no_old) o)

-- whether the banks have a place
abbrev pub inside : Banks → Option Place → Bool
inside b None = false
inside b (Some (Bank7E a)) = nat_lt a (length b.low)
inside b (Some (Bank7F a)) = nat_lt a (length b.high)

-- old byte n counts if it is the first of its place, and the banks have that place
abbrev pub counts : ℕ → Olds → Banks → Bool
counts n olds b = let o = get_or olds.items n no_old in first_there n olds o && inside b (Some (old_place o))

-- what stands now at the places of the first n old bytes, each place once
unfoldable pub stands : ℕ → Olds → Banks → ℕ
stands zero olds b = 0
stands (suc n) olds b = stands n olds b + pick (counts n olds b) (peeked b (Some (old_place (slice_index_or olds.items n no_old)))) 0

-- what stood there before
unfoldable pub stood : ℕ → Olds → Banks → ℕ
stood zero olds b = 0
stood (suc n) olds b = stood n olds b + pick (counts n olds b) (get_or olds.items n no_old).byte 0

-- of all of them
abbrev pub change_of : Olds → Banks → Change
change_of olds b = let n = min olds.count 4 in record { stands = stands n olds b; stood = stood n olds b }
