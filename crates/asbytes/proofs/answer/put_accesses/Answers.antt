use Prim.Native.Nat.{ℕ}
use mathlib.Core.List.{List}
use mathlib.Core.Path.{refl}
use lib.ListN.{get_or}
use Rattle.fields.proofs.Rows.{turned}
use Rattle.bus.specs.Access.{no_access}
use Rattle.bus.specs.declared.access.Access.{Access}
use Rattle.asbytes.specs.Answer.{enc_access, accesses_place}
use Rattle.asbytes.proofs.answer.put_accesses.Goals as goal

abbrev row_of : List Access → ℕ → List ℕ
row_of l k = enc_access (get_or l k no_access)

pub loop-i-preserved : goal.loop-i-preserved
loop-i-preserved c =
    turned c.args.out.now accesses_place 11 (row_of c.args.items) 5 (λ k. refl) c.if-out-ge-ANSWER_SIZE.true c.loop-i.i c.loop-i.invariant c.loop-i-test.true c.put.ensures c.access_bytes.ensures refl
