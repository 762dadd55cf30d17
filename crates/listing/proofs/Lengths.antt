-- How long a listing's lines are at most: a buffer with so much room takes them whole.
use Prim.Native.Nat.{ℕ, zero, suc, ◌+◌, ◌*◌, ◌/◌, ◌%◌, ◌≤◌, min}
use mathlib.Core.Bool.{Bool, false}
use mathlib.Core.List.{List}
use native.Mathlib.Omega.{arith}
use lib.Dec.{eqb, ltb}
use lib.ListN.{length, get_or, length-append}
use Rattle.common.proofs.{AllLaws.◌also◌, TableLaws.pick_elim, TableLaws.find_elim}
use Rattle.append.proofs.Decimal.{most, most-padded}
use Rattle.bus.specs.{Access.no_access, declared.access.Access.Access, Access.Log}
use Rattle.registers.specs.declared.wm_address.WmAddress.{WmAddress}
use Rattle.state.specs.declared.Machine.{Machine}
use Rattle.touch.specs.{Reach.Reached, Reach.reach_of, Who.who_of, Who.starts_at_zero}
use Rattle.touch.specs.declared.who.Who.{Who}
use Rattle.touch.specs.declared.who.Who.TheVariants.{Cpu, Dma as General, Hdma}
use Rattle.wording.specs.Words.{refusals, words_of}
use Rattle.listing.specs.Line.{Lined, head_text, who_text, verb_text, spot_text, own_text, zero_text, shows, access_text}
use Rattle.listing.specs.Cycle.{accesses_from, log_text, edge_text, cycle_text}
use Rattle.listing.specs.Event.{held_text, origin_text, back_text, refused_text, end_text}

-- a text of at most so many bytes
abbrev pub Within : ℕ → List ℕ → Type 0
Within n l = length l ≤ n

head-most : (row clock : ℕ) → Within 43 (head_text row clock)
unfolding head_text
head-most row clock = simp length-append (omega (arith, most-padded 5 row (omega arith), most-padded 10 clock (omega arith)))

who-most : (w : Who) → Within 8 (who_text w)
who-most Cpu = omega arith
who-most (General n) = omega arith
who-most (Hdma n) = omega arith

verb_most : (w : Bool) → Within 6 (verb_text w)
verb_most w = pick_elim (Within 6) w (omega arith) (omega arith)

spot-most : (n : ℕ) → Within 13 (spot_text n)
spot-most n = pick_elim (Within 13) (ltb n 131072) (omega arith) (omega arith)

own-most : (b : Bool) → Within 28 (own_text b)
own-most b = pick_elim (Within 28) b (omega arith) (omega arith)

zero-most : (b : Bool) → Within 29 (zero_text b)
zero-most b = pick_elim (Within 29) b (omega arith) (omega arith)

-- an access
pub access-most : (l : Lined) (a : Access) (r : Reached) (mark : Bool) → Within 142 (access_text l a r mark)
unfolding access_text
access-most l a r mark =
    pick_elim (Within 142) (shows l.only r.spot)
    (simp length-append
    (omega (
      arith,
      head-most l.row l.clock,
      who-most l.who,
      verb_most a.write,
      spot-most r.spot,
      own-most r.own,
      zero-most mark,
    )))
    (omega arith)

accesses-most : (l : Lined) (w : WmAddress) (mark : Bool) (items : List Access) (n i : ℕ) → Within (n * 142) (accesses_from l w mark items n i)
unfolding accesses_from
accesses-most l w mark items zero i = omega arith
accesses-most l w mark items (suc n) i =
    let a = get_or items i no_access in
    let r = reach_of l.who w a in
    simp length-append (omega (arith, access-most l a r mark, accesses-most l r.after false items n (i + 1)))

log-most : (l : Lined) (w : WmAddress) (mark : Bool) (log : Log) → Within 1562 (log_text l w mark log)
unfolding log_text
log-most l w mark log = omega (arith, accesses-most l w mark log.items (min log.count 11) 0)

-- an NMI edge
pub edge-most : (row clock only : ℕ) (edge : Bool) → Within 56 (edge_text row clock only edge)
unfolding edge_text
edge-most row clock only edge =
    let h = head-most row clock in
    pick_elim (Within 56) edge (pick_elim (Within 56) (eqb only 131072) (simp length-append (omega arith)) (omega arith)) (omega arith)

-- a cycle: eleven accesses and an edge
pub cycle-most : (row only : ℕ) (m : Machine) (log : Log) (edge : Bool) → Within 1618 (cycle_text row only m log edge)
unfolding cycle_text
cycle-most row only m log edge =
    let l : Lined = record { row = row; clock = m.board.clock; only = only; who = who_of m.dma } in
    simp length-append
    (omega (arith, log-most l m.io.wmadd (starts_at_zero m) log, edge-most row m.board.clock only edge))

-- cycles held
pub held-most : (row clock only held count : ℕ) → Within 108 (held_text row clock only held count)
unfolding held_text
held-most row clock only held count =
    pick_elim (Within 108) (eqb only 131072) (simp length-append (omega (arith, head-most row clock, most held, most count))) (omega arith)

origin_most : (v : ℕ) → Within 60 (origin_text v)
unfolding origin_text
origin_most v =
    let row = most (v / 65536) in
    pick_elim (Within 60) (eqb (v % 65536) 0) (simp length-append (omega arith)) (simp length-append (omega (arith, most (v % 65536))))

-- steps taken back
pub back-most : (row clock steps count origin : ℕ) → Within 167 (back_text row clock steps count origin)
unfolding back_text
back-most row clock steps count origin =
    pick_elim (Within 167) (eqb steps 0) (omega arith)
    (simp length-append (omega (arith, head-most row clock, most steps, most count, origin_most origin)))

words-most : (n : ℕ) → Within 58 (words_of n)
unfolding words_of
words-most n =
    find_elim (Within 58) refusals n
    (omega arith
    also omega arith
    also omega arith
    also omega arith
    also omega arith
    also omega arith
    also omega arith
    also omega arith
    also omega arith
    also omega arith
    also omega arith
    also omega arith
    also omega arith
    also tt)
    (omega arith)

-- a refusal
pub refused-most : (row clock number : ℕ) → Within 132 (refused_text row clock number)
unfolding refused_text
refused-most row clock number =
    pick_elim (Within 132) (eqb number 0) (omega arith)
    (simp length-append (omega (arith, head-most row clock, most number, words-most number)))

-- the end of a row of cycles
pub end-most : (row clock only number held done count : ℕ) → Within 132 (end_text row clock only number held done count)
unfolding end_text
end-most row clock only number held done count =
    let h = held-most row clock only held count in
    pick_elim (Within 132) (eqb number 0) (pick_elim (Within 132) (ltb done count) (omega arith) (omega arith)) (refused-most row clock number)
