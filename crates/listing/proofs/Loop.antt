-- The accesses of a log, put one by one.
use Prim.Native.Nat.{ℕ, suc, ◌+◌, ◌-◌, ◌≤◌, ◌<◌}
use mathlib.Core.Bool.{Bool, false}
use mathlib.Core.List.{List, foldl, foldl-append}
use mathlib.Core.Path.{◌≡◌}
use native.Mathlib.Omega.{arith}
use lib.ListN.{get_or}
use Rattle.append.specs.Sheet.{Sheet, push}
use Rattle.bus.specs.{Access.no_access, declared.access.Access.Access}
use Rattle.registers.specs.declared.wm_address.WmAddress.{WmAddress}
use Rattle.touch.specs.{Reach.reach_of}
use Rattle.listing.specs.{Line.Lined, Line.access_text, Cycle.accesses_from}

-- the next access, and the rest with WMADD as it left it
pub accesses_next : (s : Sheet) (l : Lined) (w : WmAddress) (mark : Bool) (items : List Access) (n i : ℕ) → i < n
    → foldl push s (accesses_from l w mark items (n - i) i)
    ≡ foldl push (foldl push s (access_text l (get_or items i no_access) (reach_of l.who w (get_or items i no_access)) mark)) (accesses_from l (reach_of l.who w (get_or items i no_access)).after false items (n - (i + 1)) (i + 1))
unfolding accesses_from
accesses_next s l w mark items n i h =
    let m : n - i ≡ suc (n - (i + 1)) = omega arith in
    rw m (foldl-append push s (access_text l (get_or items i no_access) (reach_of l.who w (get_or items i no_access)) mark) _)

-- after the last, none
pub accesses_none : (s : Sheet) (l : Lined) (w : WmAddress) (mark : Bool) (items : List Access) (n i : ℕ) → n ≤ i
    → foldl push s (accesses_from l w mark items (n - i) i) ≡ s
unfolding accesses_from
accesses_none s l w mark items n i h = let m : n - i ≡ 0 = omega arith in rw m
