-- The history of a run (demand 3): what its calls did, which operations survive, and which of them the record keeps.
-- No machine and no byte is named here.
use Rattle.std.specs.Prelude.{ℕ, List, [], ◌∷◌, eqb}
use Rattle.common.specs.Pick.{pick}
use Rattle.ring.specs.Slots.{after, before}

-- what one call did: an operation was accepted, a back step was accepted, or the call was refused
pub data Deed (Op : Type 0) : Type 0 where
  did : Op → Deed Op
  struck : Deed Op
  nothing : Deed Op

-- a list without its first element
unfoldable pub rest : {A : Type 0} → List A → List A
rest [] = []
rest (x ∷ xs) = xs

module _ {Op : Type 0} where
  -- ---- the survivors, the latest first

  -- an accepted operation joins them, an accepted back step strikes the latest, a refused call does nothing
  unfoldable pub survive : Deed Op → List Op → List Op
  survive (did o) past = o ∷ past
  survive struck past = rest past
  survive nothing past = past

  unfoldable pub survivors_from : List Op → List (Deed Op) → List Op
  survivors_from past [] = past
  survivors_from past (d ∷ ds) = survivors_from (survive d past) ds

  unfoldable pub survivors : List (Deed Op) → List Op
  survivors ds = survivors_from [] ds

-- ---- the operations that the record keeps, the latest first

-- an operation, and the slot that it took
pub record Placed (Op : Type 0) : Type 0 where
  pub op : Op
  pub slot : ℕ

-- the slot that the next operation takes, and the operations kept
pub record Shelf (Op : Type 0) : Type 0 where
  pub next : ℕ
  pub held : List (Placed Op)

module _ {Op : Type 0} where
  -- the operations whose slot is another
  unfoldable pub without : ℕ → List (Placed Op) → List (Placed Op)
  without n [] = []
  without n (p ∷ ps) = pick (eqb p.slot n) (without n ps) (p ∷ without n ps)

  -- an accepted operation takes the next slot, and the one that had that slot is kept no longer;
  -- an accepted back step strikes the latest, and the slot before is the next one again
  unfoldable pub keep : (cap : ℕ) → Deed Op → Shelf Op → Shelf Op
  keep cap (did o) k = record { next = after cap k.next; held = record { op = o; slot = k.next } ∷ without k.next k.held }
  keep cap struck k = record { next = before cap k.next; held = rest k.held }
  keep cap nothing k = k

  unfoldable pub keep_from : (cap : ℕ) → Shelf Op → List (Deed Op) → Shelf Op
  keep_from cap k [] = k
  keep_from cap k (d ∷ ds) = keep_from cap (keep cap d k) ds

  unfoldable pub kept_ops : (cap : ℕ) → List (Deed Op) → List (Placed Op)
  kept_ops cap ds = (keep_from cap (record { next = 0; held = [] }) ds).held
