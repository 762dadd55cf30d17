-- A cycle in which the DMA unit waits or has nothing to do, said of the machine's bytes: the entry is a copy of them, and of their image
-- only the NMI line, the wait and the clock change.
use Rattle.std.specs.Prelude.{ℕ, ◌+◌, ◌-◌, ◌%◌, ◌^◌, min, Bool, not, ◌&&◌, List, ◌==◌, nat_lt}
use Rattle.asbytes.specs.{Answer.answered, Crossed.Crossed, Crossed.crossed, Machine.head_of, Machine.counted}
use Rattle.asbytes.specs.Places.{slot_at, count_at, length_at}
use Rattle.ring.specs.Slots.{after}
use Rattle.bus.specs.Access.{no_log}
use Rattle.entry.specs.Slot.{write_slot}
use Rattle.fields.specs.{Little.le, Patch.patched}
use Rattle.image.specs.Groups.{flag}
use Rattle.layout.specs.Layout as the
use Rattle.layout.specs.Layout.{num, entry_size, capacity}
use Rattle.way.specs.Seen.{wait_at, clock_at, nmi_at}

-- where a field starts
abbrev pub at : the.Field → ℕ
at f = (the.place f).start

-- NMI line, wait and clock laid over the bytes
unfoldable pub ticking : List ℕ → Bool → ℕ → ℕ → List ℕ
ticking s nmi wait clock =
    patched (patched (patched s (at the.nmi) (flag nmi)) (at the.wait) (le 4 (wait - 1))) (at the.clock) (le 8 ((clock + 1) % 2 ^ 64))

-- the record's counts laid over them, one entry later
unfoldable pub counting : List ℕ → (slot kept length : ℕ) → List ℕ
counting s slot kept length = counted s (after (capacity length) slot) (min (kept + 1) (capacity length)) length

-- whether the NMI line rises
abbrev pub edge_at : List ℕ → Bool
edge_at e = nmi_at e && not (num e the.nmi == 1)

-- the entry is a copy of the image; no access is answered
unfoldable pub rested : (s l h en out : List ℕ) → Crossed
rested s l h en out =
    crossed 0 (counting (ticking s (nmi_at s) (wait_at s) (clock_at s)) (slot_at s) (count_at s) (length_at s)) l h
    (write_slot entry_size (slot_at s) (head_of s) en) (answered (nat_lt 0 (wait_at s)) (edge_at s) no_log out)
