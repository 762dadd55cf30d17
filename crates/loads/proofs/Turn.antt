-- One plain cycle by the unit's turn in it; the turns in which no byte moves.
use Prim.Native.Nat.{ℕ, zero, suc, ◌+◌}
use mathlib.Core.Bool.{Bool, true, false}
use mathlib.Core.List.{List, [], ◌++◌}
use mathlib.Core.Path.{◌≡◌, refl, ap, ◌∙◌}
use native.Mathlib.Omega.{arith}
use lib.Dec.{eqb}
use lib.ListN.{length}
use Rattle.std.specs.Prelude.{Option, None}
use Rattle.bus.proofs.Seen.{Seen, seen, opened-seen, opened-empty, mask-seen}
use Rattle.bus.specs.Access.{no_log, firsts, accesses_of, opened}
use Rattle.bus.specs.View.{mdmaen_of}
use Rattle.bus.specs.World.{World, world}
use Rattle.bus.specs.declared.access.{Access.Access}
use Rattle.dma.proofs.Steps.{busy, idle, starts, opens, waits-on, chooses, closes, stays-idle}
use Rattle.dma.specs.Cycle.{alignment, Held, holding, updated}
use Rattle.hdma.specs.Engine.{at}
use Rattle.machine.proofs.{Before.settled-seen, Quiet.plain-cycle}
use Rattle.machine.specs.Cycle.{Turned, machine_after, settled_of, turn_of}
use Rattle.machine.specs.Plain.{Ran, next, plain, held_at}
use Rattle.machine.specs.declared.event.Event.TheVariants.{Nothing as NoEvent}
use Rattle.signals.specs.Flags.{nmi_line}
use Rattle.state.specs.Progress.{progress_at}
use Rattle.state.specs.declared.{Dma.Dma, DmaProgress.DmaProgress, DmaState.DmaState}
use Rattle.state.specs.declared.DmaState.TheVariants.{Startup, Dma as General}
use Rattle.transfer.specs.Bits.{lowest}
use Rattle.transfer.specs.declared.byte.Trip.{Trip}
use Rattle.loads.proofs.Phase.{Plan, plan_of, Goes, Phase, goes_on, join, stand, named, renamed}
use Rattle.loads.specs.Load.{carried}

-- the unit's turn was held, left q, and moved bytes on these ways
pub record Turns (r : Held) (q : Plan) (ts : List Trip) : Type 0 where
  pub held : r.held ≡ true
  pub sees : seen r.after.world.core.io ≡ q.sees
  pub dma : r.after.dma ≡ q.dma
  pub bytes : List ℕ
  pub number : length bytes ≡ length ts
  pub made : accesses_of r.after.world.core.log ≡ carried ts bytes

module _ (rom : List ℕ) where
  -- in every world that looks so to the unit, before any access
  abbrev pub Turn : ℕ → Plan → Plan → List Trip → Type 0
  Turn clock p q ts = (w : World) → seen w.core.io ≡ p.sees → w.core.log ≡ no_log → Turns (updated rom (at w p.dma) clock) q ts

  -- the unit's turn in a plain cycle
  abbrev found : Ran → World
  found s = world (opened (settled_of s.machine NoEvent)) s.ram.low s.ram.high

  abbrev nmi : Ran → Bool
  nmi s = nmi_line (settled_of s.machine NoEvent)

  found-seen : (s : Ran) → seen (found s).core.io ≡ seen s.machine.io
  found-seen s = opened-seen (settled_of s.machine NoEvent) ∙ settled-seen s.machine NoEvent

  found-empty : (s : Ran) → (found s).core.log ≡ no_log
  found-empty s = opened-empty (settled_of s.machine NoEvent)

  pub turn-of : (p : Plan) (s : Ran) → plan_of s.machine ≡ p → next rom s ≡ turn_of (updated rom (at (found s) p.dma) s.machine.board.clock) s.machine (nmi s)
  turn-of p s e =
      let m = s.machine in
      plain-cycle rom m s.ram.low s.ram.high
      ∙ ap (λ (x : Plan). turn_of (updated rom (at (found s) x.dma) m.board.clock) m (nmi s)) e

  pub one : (p q : Plan) (ts : List Trip) (s : Ran) → plan_of s.machine ≡ p → Turn s.machine.board.clock p q ts → Goes rom s 1 q ts
  unfolding plain
  one p q ts s e f =
      let t = f (found s) (found-seen s ∙ ap (λ (x : Plan). x.sees) e) (found-empty s) in
      let n = turn-of p s e in
      record {
        each = λ i h. let z : i ≡ 0 = omega (arith, h) in ap (λ (k : ℕ). held_at rom k s) z ∙ ap (λ (x : Turned). x.held) n ∙ t.held;
        plan = ap (λ (x : Turned). plan_of (machine_after x)) n ∙ (λ i. record { sees = t.sees i; dma = t.dma i });
        bytes = t.bytes;
        number = t.number;
        made = ap (λ (x : Turned). s.made ++ accesses_of x.after.world.core.log) n ∙ ap (λ (l : List Access). s.made ++ l) t.made;
      }

  -- the same whatever the clock
  pub step : (p q : Plan) (ts : List Trip) → ((clock : ℕ) → Turn clock p q ts) → Phase rom p 1 q ts
  step p q ts f s e = one p q ts s e (f s.machine.board.clock)

  -- nothing was done on the bus
  pub quiet : (s : Seen) (d e : Dma) (clock : ℕ) → ((w : World) → seen w.core.io ≡ s → updated rom (at w d) clock ≡ holding (at w e))
      → Turn clock (record { sees = s; dma = d }) (record { sees = s; dma = e }) []
  unfolding carried firsts
  quiet s d e clock f w h l =
      let u = f w h in
      record {
        held = ap (λ (x : Held). x.held) u;
        sees = ap (λ (x : Held). seen x.after.world.core.io) u ∙ h;
        dma = ap (λ (x : Held). x.after.dma) u;
        bytes = [];
        number = refl;
        made = ap (λ (x : Held). accesses_of x.after.world.core.log) u ∙ ap accesses_of l;
      }

-- MDMAEN as the unit sees it
pub mask : (w : World) (s : Seen) → seen w.core.io ≡ s → mdmaen_of w.core ≡ s.enables.mdmaen
mask w s e = mask-seen w.core ∙ ap (λ (x : Seen). x.enables.mdmaen) e

-- a unit at work
abbrev pub working : Seen → Dma → DmaState → ℕ → Option DmaProgress → Plan
working s d state wait progress = record { sees = s; dma = busy d state wait progress }

-- an idle one
abbrev pub resting : Seen → Dma → Plan
resting s d = record { sees = s; dma = idle d }

module _ (rom : List ℕ) (s : Seen) (d : Dma) where
  -- whether the mask that the unit sees is 0
  masked : (w : World) → seen w.core.io ≡ s → eqb (mdmaen_of w.core) 0 ≡ eqb s.enables.mdmaen 0
  masked w e = ap (λ (n : ℕ). eqb n 0) (mask w s e)

  -- a cycle in which nothing is done on the bus
  still : (a b : Dma) → ((clock : ℕ) (w : World) → seen w.core.io ≡ s → updated rom (at w a) clock ≡ holding (at w b))
      → Phase rom (record { sees = s; dma = a }) 1 (record { sees = s; dma = b }) []
  still a b f = step rom (record { sees = s; dma = a }) (record { sees = s; dma = b }) [] (λ clock. quiet rom s a b clock (f clock))

  -- n cycles of waiting
  pub waits-out : (state : DmaState) (progress : Option DmaProgress) (n : ℕ) → Phase rom (working s d state n progress) n (working s d state 0 progress) []
  waits-out state progress zero = stand rom (working s d state 0 progress)
  waits-out state progress (suc n) =
      renamed rom (omega arith) refl refl
      (join rom 1 n [] []
      (still (busy d state (suc n) progress) (busy d state n progress) (λ clock w h. waits-on rom w d clock state n progress))
      (waits-out state progress n))

  opening : Phase rom (working s d Startup 0 None) 1 (working s d General 0 None) []
  opening = still (busy d Startup 0 None) (busy d General 0 None) (λ clock w h. opens rom w d clock None)

  pub closing : eqb s.enables.mdmaen 0 ≡ true → Phase rom (working s d General 0 None) 1 (resting s d) []
  closing q = still (busy d General 0 None) (idle d) (λ clock w h. closes rom w d clock (masked w h ∙ q))

  -- the lowest channel is chosen: 8 cycles
  pub choosing : eqb s.enables.mdmaen 0 ≡ false → Phase rom (working s d General 0 None) 8 (working s d General 0 (progress_at (lowest s.enables.mdmaen) 0)) []
  choosing q =
      let on = progress_at (lowest s.enables.mdmaen) 0 in
      join rom 1 7 [] []
      (still (busy d General 0 None) (busy d General 7 on)
      (λ clock w h. chooses rom w d clock (masked w h ∙ q) ∙ ap (λ (n : ℕ). holding (at w (busy d General 7 (progress_at (lowest n) 0)))) (mask w s h)))
      (waits-out General on 7)

  -- from the first cycle to the first choice: alignment + 8
  pub starting : eqb s.enables.mdmaen 0 ≡ false → (x : Ran) → plan_of x.machine ≡ resting s d
      → Goes rom x (alignment x.machine.board.clock + 8) (working s d General 0 None) []
  starting q x e =
      let clock = x.machine.board.clock in
      let n = alignment clock + 6 in
      let wait = busy d Startup n None in
      let first = one rom (resting s d) (working s d Startup n None) [] x e (quiet rom s (idle d) wait clock (λ w h. starts rom w d clock (masked w h ∙ q))) in
      named rom (omega arith) refl refl (goes_on rom x 1 (n + 1) [] [] first (join rom n 1 [] [] (waits-out Startup None n) opening))

  -- an idle unit with none asked for does not hold
  pub rests : eqb s.enables.mdmaen 0 ≡ true → (x : Ran) → plan_of x.machine ≡ resting s d → (next rom x).held ≡ false
  rests q x e =
      let w = found rom x in
      let h = found-seen rom x ∙ ap (λ (p : Plan). p.sees) e in
      ap (λ (t : Turned). t.held) (turn-of rom (resting s d) x e) ∙ ap (λ (r : Held). r.held) (stays-idle rom w d x.machine.board.clock (masked w h ∙ q))
