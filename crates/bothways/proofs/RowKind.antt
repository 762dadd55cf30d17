-- The kind of a row, by its first byte in a bench file.
use Prim.Native.Nat.{ℕ}
use mathlib.Core.List.{[], ◌∷◌}
use Rattle.common.specs.Table.{find, at}
use Rattle.reader.specs.declared.kinds.Kind.{Kind}
use Rattle.reader.specs.declared.kinds.Kind.TheVariants as kinds

abbrev pub kind_at : ℕ → Kind
kind_at n =
    find
    (at 1 kinds.Cycles
    ∷ at 2 kinds.Read
    ∷ at 3 kinds.Write
    ∷ at 4 kinds.Pad
    ∷ at 5 kinds.Plug
    ∷ at 6 kinds.Answer
    ∷ at 7 kinds.Back
    ∷ [])
    n kinds.Nothing
