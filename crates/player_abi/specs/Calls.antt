-- What the other exported calls leave, in bytes (docs/PLAYER.md).
use Rattle.std.specs.Prelude.{ℕ, List, [], ◌∷◌}
use Rattle.asbytes.specs.Crossed.{Crossed, crossed, crossing}
use Rattle.asbytes.specs.Machine.{stored}
use Rattle.bench.specs.Calls.{ReadOut, WriteOut, PlainOut, FreshOut}
use Rattle.common.specs.Refusal.{refusal_number}
use Rattle.common.specs.declared.refusal.Refusal.{Refusal}
use Rattle.ring.specs.declared.Bench.{Bench}
use Rattle.std.specs.declared.result.Result.{Result}
use Rattle.std.specs.declared.result.Result.TheVariants.{Ok, Err}
use Rattle.fields.specs.Patch.{patched}

-- byte and cost
abbrev pub read_crossed : List ℕ → List ℕ → ReadOut → Crossed
read_crossed s out o = crossing o.number o.desk s (patched out 0 (o.byte ∷ o.cost ∷ []))

-- the cost
abbrev pub write_crossed : List ℕ → List ℕ → WriteOut → Crossed
write_crossed s out o = crossing o.number o.desk s (patched out 0 (o.cost ∷ []))

-- nothing beside the number
abbrev pub plain_crossed : List ℕ → PlainOut → Crossed
plain_crossed s o = crossing o.number o.desk s []

-- a refused fresh has a machine too
abbrev pub fresh_crossed : List ℕ → FreshOut → Crossed
fresh_crossed s a = crossed a.number (stored a.bench s) [] [] [] []

-- the number, and the machine's bytes
pub record Left : Type 0 where
  pub number : ℕ
  pub machine : List ℕ

abbrev pub left_by : ℕ → List ℕ → Left
left_by n s = record { number = n; machine = s }

-- a machine is written over the bytes s, a refusal leaves them
abbrev pub left : Result Bench Refusal → List ℕ → Left
left (Ok b) s = left_by 0 (stored b s)
left (Err x) s = left_by (refusal_number x) s
