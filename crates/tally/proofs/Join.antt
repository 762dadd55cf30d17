-- The parts of a count, joined into its definitions.
use Rattle.std.proofs.Common.{◌≡◌, ℕ, ◌+◌, ◌-◌, ◌%◌, ◌^◌, min, Bool, true, false, eqb, List, [], ◌∷◌, refl, ap, ◌∙◌, add-one, eqb-true, Result, Ok, Err}
use Rattle.std.specs.Result.{result_err}
use mir.Val.{bool_byte}
use Rattle.benchfile.specs.Row.{row_at}
use Rattle.common.specs.Refusal.{number_of, result_number}
use Rattle.common.specs.declared.refusal.Refusal.{Refusal}
use Rattle.walk.specs.Call.{Calling, call_of}
use Rattle.benchfile.specs.declared.row.Row.{Row}
use Rattle.bus.specs.{Access.accesses_of, Access.Log}
use Rattle.state.specs.declared.{DmaState.DmaState}
use Rattle.touch.specs.declared.who.Who.{Who}
use Rattle.tally.specs.Alive.{Rows, noted}
use Rattle.tally.specs.Figure.{writes, state_number}
use Rattle.tally.specs.File.{FileRun, file_run, file_counting, file_count}
use Rattle.tally.specs.Run.{Tallying, keeping, count_by, refused_by, call_tallied, limit_of, step_tallied, calls_tallied, row_tallied, rows_tallied}
use Rattle.tally.specs.declared.run.Book.{Book}
use Rattle.tally.specs.Share.{made_by, share_by, share_of, Counted}
use Rattle.tally.specs.declared.share.Share.{Share}
use Rattle.tally.proofs.Writes.{length-firsts}

-- an operation's share
pub share-joined : (who : Who) (held : Bool) (after : DmaState) (log : Log) {w r state : ℕ} {s : Share} → w ≡ writes (accesses_of log)
    → r ≡ min log.count 11 - w → state ≡ state_number after → s ≡ share_by who w r state (bool_byte held) → s ≡ share_of (made_by who held after log)
unfolding share_of
share-joined who held after log p e f g =
    let l = length-firsts (min log.count 11) log.items in cc

-- a count that goes on still lends the same slices
pub then_kept : (a b c : Book) → b ≡ keeping a b → c ≡ keeping b c → c ≡ keeping a c
then_kept a b c e f = f ∙ ap (λ (t : Book). keeping t c) e

-- one call more of a row, one row more
pub calls_more : {rom lent : List ℕ} (row : ℕ) (says : Row) (i : ℕ) (t : Tallying) {u v : Tallying} → u ≡ calls_tallied rom row says i t → lent ≡ rom
    → v ≡ step_tallied lent row says i u → v ≡ calls_tallied rom row says (i + 1) t
unfolding calls_tallied
calls_more row says i t h r k = rw (add-one i) cc

pub rows_more : {rom lent : List ℕ} (script limits : List ℕ) (row : ℕ) (t : Tallying) {u v : Tallying} → u ≡ rows_tallied rom script limits row t → lent ≡ rom
    → v ≡ row_tallied lent script limits row u → v ≡ rows_tallied rom script limits (row + 1) t
unfolding rows_tallied
rows_more script limits row t h r k = rw (add-one row) cc

-- an accepted call, and a refused one
module _ (rom : List ℕ) (row : ℕ) (says : Row) (i : ℕ) (t : Tallying) where
  pub tally_refused : {o : Calling} → o ≡ call_of rom i says t.desk → eqb o.answer.number 0 ≡ false → refused_by t o ≡ call_tallied rom row says i t
  unfolding call_tallied
  tally_refused p e = cc

  pub tally_accepted : {o : Calling} {n : Counted} {r : Rows} → o ≡ call_of rom i says t.desk → eqb o.answer.number 0 ≡ true
      → n ≡ count_by says t.desk o t.totals → r ≡ noted row o.answer.back t.rows
      → ◌≡◌ {A = Tallying} (record { desk = o.desk; number = n.number; row = t.row; rows = r; totals = n.totals }) (call_tallied rom row says i t)
  unfolding call_tallied
  tally_accepted p e q h = cc

pub err_number : (r : Result Unit Refusal) → number_of (result_err r) ≡ result_number r
err_number (Ok u) = refl
err_number (Err x) = refl

-- a row
pub row_goes : (rom script limits : List ℕ) (row : ℕ) (t : Tallying) {says : Row} {n next : ℕ} {u : Tallying} → eqb t.number 0 ≡ true → says ≡ row_at script row
    → n ≡ limit_of limits row says → next ≡ (row + 1) % 2 ^ 64
    → u ≡ calls_tallied rom row says n (record { desk = t.desk; number = t.number; row = next; rows = t.rows; totals = t.totals })
    → u ≡ row_tallied rom script limits row t
unfolding row_tallied
row_goes rom script limits row t e p q r v = let z = eqb-true t.number 0 e in cc

-- a run of a file
pub file-counted : (f l h e alive all kept : List ℕ) {none spare : List ℕ} {r s : FileRun} → none ≡ [] → spare ≡ 0 ∷ [] → r ≡ file_run f l h e none alive all
    → s ≡ file_run f r.low r.high r.entries r.alive spare kept
    → file_counting (record { number = r.number; row = r.row }) s.low s.high s.entries r.alive r.totals s.totals
    ≡ file_count f l h e alive all kept
unfolding file_count
file-counted f l h e alive all kept n o p q = cc
