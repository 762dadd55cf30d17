use Prim.Native.Nat.{ℕ}
use mathlib.Core.List.{List}
use lib.ListN.{get_or}
use Rattle.fields.proofs.Rows.{Laying}
use Rattle.bus.specs.Access.{no_access}
use Rattle.bus.specs.declared.access.Access.{Access}
use Rattle.asbytes.specs.Answer.{enc_access, accesses_place}
use Rattle.asbytes.proofs.answer.put_accesses.Given as goal

abbrev row_of : List Access → ℕ → List ℕ
row_of l k = enc_access (get_or l k no_access)

abbrev pub invariant-loop-i : goal.invariant-loop-i
invariant-loop-i l = Laying l.initial.out accesses_place 11 (row_of l.fn.items) l.out l.i
