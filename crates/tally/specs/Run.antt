-- A script counted: its calls one after the other, each lent what the last left, to the first that is refused. A row makes all its calls, or,
-- where a limit is set for it, so many.
use Rattle.std.specs.Prelude.{ℕ, ◌≡◌, zero, suc, ◌+◌, ◌/◌, ◌%◌, ◌^◌, Bool, List, length, ◌==◌, nat_lt, slice_index}
use Rattle.common.specs.Pick.{pick}
use Rattle.bench.specs.Calls.{Desk}
use Rattle.benchfile.specs.Row.{row_at}
use Rattle.benchfile.specs.declared.row.Row.{Row}
use Rattle.benchfile.specs.declared.row.Row.TheVariants.{Cycles, Read, Write, Pad, Plug, Answer as Reply, Back, Broken}
use Rattle.state.specs.declared.{Dma.Dma, DmaState.DmaState}
use Rattle.common.specs.Refusal.{number_of}
use Rattle.script.specs.{Rig.desk_of, declared.rig.Rig.Rig}
use Rattle.touch.specs.Who.{who_of}
use Rattle.walk.specs.Call.{Calling, call_of}
use Rattle.tally.specs.{Alive.Rows, Alive.rows, Alive.noted}
use Rattle.tally.specs.Share.{made_by, share_of, Counted, counted, count_call}
use Rattle.tally.specs.declared.run.Book.{Book}
use Rattle.bus.specs.Access.{Log}

-- what a count has come to: what is lent, the refusal of the last call or 0, the rows begun, which operations survive, and the totals
pub record Tallying : Type 0 where
  pub desk : Desk
  pub number : ℕ
  pub row : ℕ
  pub rows : Rows
  pub totals : List ℕ

-- the same, of what the code has and what it runs on
abbrev pub tallying : Book → Rig → Tallying
tallying t g =
    let a = t.tally in record { desk = desk_of g; number = a.number; row = a.row; rows = rows a.top t.alive.now; totals = t.totals.now }

-- the same slices lent, with what another has in them
abbrev pub keeping : Book → Book → Book
keeping t u = record u { alive = record t.alive { now = u.alive.now }; totals = record t.totals { now = u.totals.now } }

-- the number is that of its refusal
abbrev pub Told : Book → Type 0
Told t = t.tally.number ≡ number_of t.refusal

-- the totals with an accepted call, by the DMA unit before it: a cycle's share; every other call adds nothing
abbrev pub count_in : Row → Dma → Bool → DmaState → Log → List ℕ → Counted
count_in (Cycles count event due timer) d held after log l = count_call l (share_of (made_by (who_of d) held after log))
count_in (Read bank addr) d held after log l = counted 0 l
count_in (Write bank addr byte) d held after log l = counted 0 l
count_in (Pad port word) d held after log l = counted 0 l
count_in (Plug port on) d held after log l = counted 0 l
count_in (Reply addr byte) d held after log l = counted 0 l
count_in (Back count) d held after log l = counted 0 l
count_in Broken d held after log l = counted 0 l

-- the same, of what the call answered and left
abbrev pub count_by : Row → Desk → Calling → List ℕ → Counted
count_by says d o l = count_in says d.bench.machine.dma o.answer.held o.desk.bench.machine.dma.state o.answer.log l

-- with an accepted call
abbrev pub accepted_by : Tallying → Calling → ℕ → Counted → Tallying
accepted_by t o row c =
    record { desk = o.desk; number = c.number; row = t.row; rows = noted row o.answer.back t.rows; totals = c.totals }

-- with a refused one
abbrev pub refused_by : Tallying → Calling → Tallying
refused_by t o = record { desk = o.desk; number = o.answer.number; row = t.row; rows = t.rows; totals = t.totals }

-- the call after i others of a row
unfoldable pub call_tallied : List ℕ → ℕ → Row → ℕ → Tallying → Tallying
call_tallied rom row says i t =
    let o = call_of rom i says t.desk in
    pick (o.answer.number == 0) (accepted_by t o row (count_by says t.desk o t.totals)) (refused_by t o)

-- one call more, unless one was refused
unfoldable pub step_tallied : List ℕ → ℕ → Row → ℕ → Tallying → Tallying
step_tallied rom row says i t = pick (t.number == 0) (call_tallied rom row says i t) t

-- n calls of a row
unfoldable pub calls_tallied : List ℕ → ℕ → Row → ℕ → Tallying → Tallying
calls_tallied rom row says zero t = t
calls_tallied rom row says (suc i) t = step_tallied rom row says i (calls_tallied rom row says i t)

-- how many calls a row is
abbrev pub calls_in : Row → ℕ
calls_in (Cycles count event due timer) = count
calls_in (Read bank addr) = 1
calls_in (Write bank addr byte) = 1
calls_in (Pad port word) = 1
calls_in (Plug port on) = 1
calls_in (Reply addr byte) = 1
calls_in (Back count) = count
calls_in Broken = 1

-- how many it makes: a limit is set for the first so many rows
abbrev pub limit_of : List ℕ → ℕ → Row → ℕ
limit_of limits row says = pick (nat_lt row (length limits)) (slice_index limits row) (calls_in says)

-- a row begins
abbrev pub begun : ℕ → Tallying → Tallying
begun row t = record { desk = t.desk; number = 0; row = (row + 1) % 2 ^ 64; rows = t.rows; totals = t.totals }

-- one row more, unless a call was refused
unfoldable pub row_tallied : List ℕ → List ℕ → List ℕ → ℕ → Tallying → Tallying
row_tallied rom script limits row t =
    let says = row_at script row in pick (t.number == 0) (calls_tallied rom row says (limit_of limits row says) (begun row t)) t

-- the first n rows
unfoldable pub rows_tallied : List ℕ → List ℕ → List ℕ → ℕ → Tallying → Tallying
rows_tallied rom script limits zero t = t
rows_tallied rom script limits (suc n) t = row_tallied rom script limits n (rows_tallied rom script limits n t)

-- a whole script
abbrev pub script_tallied : List ℕ → List ℕ → List ℕ → Tallying → Tallying
script_tallied rom script limits t = rows_tallied rom script limits (length script / 8) t
