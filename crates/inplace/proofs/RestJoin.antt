-- The steps of a cycle that waits, joined.
use Rattle.std.proofs.Common.{◌≡◌, ℕ, ◌+◌, ◌-◌, ◌%◌, ◌^◌, min, Bool, not, ◌&&◌, eqb, ltb, List, [], ◌++◌, replicate, ap, ◌∙◌}
use Rattle.asbytes.specs.{Answer.accesses_place, Answer.answered, Crossed.crossed, Machine.head_of, Machine.counted}
use Rattle.asbytes.specs.Places.{slot_at, count_at, length_at}
use Rattle.ring.specs.Slots.{after}
use Rattle.bus.specs.Access.{no_log}
use Rattle.entry.specs.Slot.{write_slot}
use Rattle.fields.specs.{Little.le, Patch.patched}
use Rattle.image.specs.Groups.{byte, flag}
use Rattle.layout.specs.Layout as the
use Rattle.layout.specs.Layout.{num, entry_size, capacity}
use Rattle.way.specs.Seen.{wait_at, clock_at, nmi_at}
use Rattle.inplace.specs.Rest.{at, ticking, counting, rested}

pub ticking-by : (s : List ℕ) (nmi : Bool) (wait clock : ℕ) {a b c four : List ℕ} {left next : ℕ} → a ≡ patched s (at the.nmi) (flag nmi)
    → left ≡ wait - 1 → four ≡ le 4 left → b ≡ patched a (at the.wait) four → next ≡ (clock + 1) % 2 ^ 64
    → c ≡ patched b (at the.clock) (le 8 next) → c ≡ ticking s nmi wait clock
unfolding ticking
ticking-by s nmi wait clock p q r t u v =
    v ∙ (λ i. patched ((t ∙ (λ j. patched (p j) (at the.wait) ((r ∙ ap (le 4) q) j))) i) (at the.clock) (le 8 (u i)))

pub counting-by : (s : List ℕ) (slot kept room : ℕ) {c : List ℕ} {cap next more : ℕ} → cap ≡ capacity room → next ≡ after cap slot
    → more ≡ min (kept + 1) cap → c ≡ counted s next more room → c ≡ counting s slot kept room
unfolding counting
counting-by s slot kept room c p q r = r ∙ (λ i. counted s ((p ∙ ap (λ (n : ℕ). after n slot) c) i) ((q ∙ ap (λ (n : ℕ). min (kept + 1) n) c) i) room)

pub quiet_by : (out : List ℕ) (held edge : Bool) {a b : List ℕ} → a ≡ patched out 0 (flag held ++ flag edge ++ byte 0)
    → b ≡ patched a accesses_place (replicate 55 0) → b ≡ answered held edge no_log out
unfolding answered
quiet_by out held edge p q = q ∙ (λ i. patched (p i) accesses_place (replicate 55 0))

pub rested-by : (s en out : List ℕ) {slot kept room wait clock was : ℕ} {nmi : Bool} {a b c d : List ℕ} → slot ≡ slot_at s
    → kept ≡ count_at s → room ≡ length_at s → wait ≡ wait_at s → clock ≡ clock_at s → nmi ≡ nmi_at s → was ≡ num s the.nmi
    → a ≡ write_slot entry_size slot (head_of s) en → b ≡ ticking s nmi wait clock → c ≡ counting b slot kept room
    → d ≡ answered (ltb 0 wait) (nmi && not (eqb was 1)) no_log out → crossed 0 c [] [] a d ≡ rested s [] [] en out
unfolding rested
rested-by s en out p q r t u v o w y z k =
    λ i.
    crossed 0 ((z ∙ (λ j. counting ((y ∙ (λ n. ticking s (v n) (t n) (u n))) j) (p j) (q j) (r j))) i) [] []
    ((w ∙ (λ j. write_slot entry_size (p j) (head_of s) en)) i) ((k ∙ (λ j. answered (ltb 0 (t j)) (v j && not (eqb (o j) 1)) no_log out)) i)
