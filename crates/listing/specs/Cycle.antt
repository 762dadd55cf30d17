-- The lines of a cycle (docs/MOVES.md): its accesses in order, then the NMI edge, with the clock before the cycle.
use Rattle.std.specs.Prelude.{ℕ, zero, suc, ◌+◌, min, Bool, false, List, [], ◌++◌, eqb, get_or}
use Rattle.common.specs.Pick.{pick}
use Rattle.append.specs.Texts.{codes}
use Rattle.bus.specs.{Access.no_access, declared.access.Access.Access, Access.Log}
use Rattle.registers.specs.declared.wm_address.WmAddress.{WmAddress}
use Rattle.state.specs.declared.Machine.{Machine}
use Rattle.touch.specs.{Reach.reach_of, Who.who_of, Who.starts_at_zero}
use Rattle.listing.specs.Line.{Lined, head_text, access_text}

-- n accesses from access i on, each with WMADD as the last left it; a mark stands on the first
unfoldable pub accesses_from : Lined → WmAddress → Bool → List Access → ℕ → ℕ → List ℕ
accesses_from l w mark items zero i = []
accesses_from l w mark items (suc n) i =
    let a = get_or items i no_access in
    let r = reach_of l.who w a in
    access_text l a r mark ++ accesses_from l r.after false items n (i + 1)

-- those of a log, at most eleven
unfoldable pub log_text : Lined → WmAddress → Bool → Log → List ℕ
log_text l w mark log = accesses_from l w mark log.items (min log.count 11) 0

-- the edge, where every byte is looked at
unfoldable pub edge_text : ℕ → ℕ → ℕ → Bool → List ℕ
edge_text row clock only edge = pick edge (pick (eqb only 131072) (head_text row clock ++ codes "NMI     edge\n") []) []

-- what a cycle of a machine did, by its log and its NMI edge
unfoldable pub cycle_text : ℕ → ℕ → Machine → Log → Bool → List ℕ
cycle_text row only m log edge =
    log_text (record { row = row; clock = m.board.clock; only = only; who = who_of m.dma }) m.io.wmadd (starts_at_zero m) log
    ++ edge_text row m.board.clock only edge
