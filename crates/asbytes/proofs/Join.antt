-- The steps of reading and writing the machine's bytes and a cycle's answer, joined.
use Prim.Native.Nat.{ℕ}
use mathlib.Core.Bool.{Bool, true, false, ◌&&◌}
use mathlib.Core.List.{List, ◌++◌}
use mathlib.Core.Path.{◌≡◌, refl, sym, ap, ◌∙◌}
use lib.Dec.{eqb}
use Rattle.common.specs.Pick.{pick}
use Rattle.ring.specs.Slots.{bench}
use Rattle.ring.specs.declared.Bench.{Bench}
use Rattle.decode.specs.Decode.{machine_at}
use Rattle.fields.specs.{Little.le, Patch.patched}
use Rattle.image.specs.{Encode.encode, Groups.byte, Groups.flag}
use Rattle.layout.specs.Layout as the
use Rattle.layout.specs.Layout.{num}
use Rattle.ranges.specs.Entry.{entry_ok}
use Rattle.state.specs.declared.Machine.{Machine}
use Rattle.wram.specs.Olds.{no_olds}
use Rattle.asbytes.specs.Answer.{enc_accesses, accesses_place, answered}
use Rattle.asbytes.specs.Machine.{head_of, broken, machine_of, bench_of, counted, summed, stored, saved}
use Rattle.asbytes.specs.Places as at
use Rattle.asbytes.specs.Places.{beside, slot_at, count_at, length_at, sum_at}
use Rattle.bus.specs.Access.{Log}

-- ---- the machine read

module _ (e : List ℕ) {ok : Bool} {m : Machine} (p : ok ≡ entry_ok e) (q : m ≡ machine_at e) where
  abbrev sound : Bool → Bool
  sound b = b && eqb (num e the.old_count) 0

  pub machine-by : sound ok ≡ true → m ≡ machine_of e
  unfolding machine_of
  machine-by t = q ∙ (λ i. pick ((sym t ∙ ap sound p) i) (machine_at e) (broken (machine_at e)))

  pub broken-by : sound ok ≡ false → broken m ≡ machine_of e
  unfolding machine_of
  broken-by t = ap broken q ∙ (λ i. pick ((sym t ∙ ap sound p) i) (machine_at e) (broken (machine_at e)))

pub bench-by : {e : List ℕ} {m : Machine} {a b c t : ℕ} (s : List ℕ) → e ≡ head_of s → m ≡ machine_of e → a ≡ slot_at s → b ≡ count_at s → c ≡ length_at s → t ≡ sum_at s
    → bench m a b c t ≡ bench_of s
unfolding bench_of
bench-by s p q x y z t = λ i. bench ((q ∙ ap machine_of p) i) (x i) (y i) (z i) (t i)

-- ---- and written

pub put-by : (d : List ℕ) (at : ℕ) {d' x y : List ℕ} → d' ≡ patched d at x → x ≡ y → d' ≡ patched d at y
put-by d at p q = p ∙ ap (λ (z : List ℕ). patched d at z) q

pub counted-by : (s : List ℕ) (slot kept room : ℕ) {x y z : List ℕ} → x ≡ patched s (beside at.slot).start (le 8 slot)
    → y ≡ patched x (beside at.kept).start (le 8 kept) → z ≡ patched y (beside at.length).start (le 8 room) → z ≡ counted s slot kept room
unfolding counted
counted-by s slot kept room p q r =
    r ∙ (λ i. patched ((q ∙ (λ j. patched (p j) (beside at.kept).start (le 8 kept))) i) (beside at.length).start (le 8 room))

pub summed_by : (s : List ℕ) (sum : ℕ) {b s' : List ℕ} → b ≡ le 4 sum → s' ≡ patched s (beside at.sum).start b → s' ≡ summed s sum
unfolding summed
summed_by s sum p q = put-by s (beside at.sum).start q p

pub stored-by : (s : List ℕ) (b : Bench) {w x z : List ℕ} → w ≡ patched s 0 (encode b.machine no_olds)
    → x ≡ counted w b.slot b.kept b.length → z ≡ summed x b.sum → z ≡ stored b s
unfolding stored
stored-by s b p q r = r ∙ ap (λ (l : List ℕ). summed l b.sum) (q ∙ ap (λ (l : List ℕ). counted l b.slot b.kept b.length) p)

pub saved-by : (s : List ℕ) (n : ℕ) (b : Bench) {s' : List ℕ} → eqb n 0 ≡ true → s' ≡ stored b s → s' ≡ saved n b s
unfolding saved
saved-by s n b z p = rw z p

pub left_as : (n : ℕ) (b : Bench) (s : List ℕ) → eqb n 0 ≡ false → s ≡ saved n b s
unfolding saved
left_as n b s z = rw z refl

-- ---- the answer

pub answered-by : (out : List ℕ) (held edge : Bool) (log : Log) {a b : List ℕ} → a ≡ patched out 0 (flag held ++ flag edge ++ byte log.count)
    → b ≡ patched a accesses_place (enc_accesses log.items) → b ≡ answered held edge log out
unfolding answered
answered-by out held edge log p q = q ∙ (λ i. patched (p i) accesses_place (enc_accesses log.items))
