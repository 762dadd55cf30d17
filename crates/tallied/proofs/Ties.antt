-- The figures of a cycle are what was done on the bus, for every machine and cycle.
use Prim.Native.Nat.{ℕ, zero, suc, ◌-◌, ◌≤◌, min}
use mathlib.Core.Bool.{Bool}
use mathlib.Core.List.{List, [], ◌∷◌, ◌++◌}
use mathlib.Core.Logic.{inl, inr}
use mathlib.Core.Path.{◌≡◌, refl, sym, ap, subst, ◌∙◌}
use native.Mathlib.Omega.{arith}
use lib.ListN.{length, get_or, take}
use lib.Seq.{take-suc}
use Rattle.common.proofs.TableLaws.{pick_elim}
use Rattle.bus.specs.Access.{Log}
use Rattle.bus.specs.{Access.no_access, Access.no_log, Access.firsts, Access.accesses_of, Access.opened, World.World}
use Rattle.bus.specs.declared.access.Access.{Access}
use Rattle.dma.specs.Pass.{unqueued}
use Rattle.followed.proofs.{Cycle.updated-follows, Who.begun-log, Who.cycled_credited}
use Rattle.followed.specs.Credit.{Done, CreditedAt}
use Rattle.hdma.specs.Engine.{DmaWorld, at}
use Rattle.machine.specs.Cycle.{Turned, begun, cycled}
use Rattle.machine.specs.declared.event.Event.{Event}
use Rattle.state.specs.declared.{Dma.Dma, DmaState.DmaState, Machine.Machine}
use Rattle.touch.specs.Who.{who_of}
use Rattle.touch.specs.declared.who.Who.{Who}
use Rattle.touch.specs.declared.who.Who.TheVariants.{Cpu, Dma as General, Hdma}
use Rattle.tally.proofs.Writes.{firsts-take}
use Rattle.tally.specs.Figure.{Made, writes, reads, by_general, by_hdma}
use Rattle.tallied.specs.Tied.{cycle_made, only, none, Says, Quiet, Served, TiedAt, Tied}
use Rattle.tallied.proofs.Count.{listed, Has, byte_has}
use Rattle.tallied.proofs.Turns.{Counts, some, first-counts, line-counts}

-- no access, no figure
says_none : (m : Made) → m.accesses ≡ [] → Says none none none m
unfolding writes
says_none m e =
    let Zero : ℕ → Type 0 = λ (n : ℕ). n ≡ 0 in
    record {
      general = λ c. pick_elim Zero (by_general c m.who) (ap writes e) refl;
      units = λ c. pick_elim Zero (by_hdma c m.who) (ap (λ (l : List Access). some (writes l)) e) refl;
      table = λ c. pick_elim Zero (by_hdma c m.who) (ap (λ (l : List Access). reads l - writes l) e) refl;
    }

module _ (rom : List ℕ) (w : World) (d : Dma) (u : ℕ) (v : World) (held : Bool) (after : DmaState) (e : w.core.log ≡ no_log) where
  abbrev made : Who → Made
  made who = record { who = who; held = held; after = after; accesses = listed v.core.log }

  start : Has 0 0 w.core.log
  unfolding writes
  start = subst (Has 0 0) (sym e) (record { counted = refl; size = refl; wrote = refl })

  quiet : (who : Who) → Done v w → Quiet v w (made who)
  quiet who g = let none = ap listed (g.log ∙ e) in record { done = g; accesses = none; says = says_none (made who) none }

  served : {i j : ℕ} (ch : ℕ) (x : World) → Done v x → Counts i j x.core.log → Served v x ch i j (made (Hdma ch))
  served {i} {j} ch x g k =
      let y = subst (Counts i j) (sym g.log) k in
      (g, record { general = λ c. refl; units = λ c. ap (λ (n : ℕ). only ch n c) y.units; table = λ c. ap (λ (n : ℕ). only ch n c) y.table })

  tied : (who : Who) → CreditedAt rom w d u who v → TiedAt rom w d u who v (made who)
  tied Cpu g = quiet Cpu g
  tied (General ch) (inl g) = inl (quiet (General ch) g)
  tied (General ch) (inr g) =
      let y = subst (Has 2 1) (sym g.log) (byte_has rom w ch u start) in
      inr (g, record { general = λ c. ap (λ (n : ℕ). only ch n c) y.wrote; units = λ c. refl; table = λ c. refl })
  tied (Hdma ch) (inl g) = inl (quiet (Hdma ch) g)
  tied (Hdma ch) (inr (inl g)) = inr (inl (served ch _ g (first-counts rom (unqueued (at w d)) ch start)))
  tied (Hdma ch) (inr (inr g)) = inr (inr (served ch _ g (line-counts rom (unqueued (at w d)) ch start)))

module _ (rom : List ℕ) (m : Machine) (l h : List ℕ) (event : Event) (line hit : Bool) where
  -- the world before the DMA unit's turn, the cycle, and the cycle as it is counted
  abbrev b : DmaWorld
  b = begun m l h event line hit

  abbrev t : Turned
  t = cycled rom m l h event line hit

  abbrev log : Log
  log = t.after.world.core.log

  pub cycled-log : (log.count ≤ 11) × (length log.items ≡ 11)
  unfolding cycled opened
  cycled-log = let f = updated-follows rom b m.board.clock in (omega (arith, f.most), f.size)

  cycled-listed : listed log ≡ accesses_of log
  cycled-listed =
      let k = cycled-log in
      let n : min log.count 11 ≡ log.count = omega (arith, k.0) in
      rw n (sym (firsts-take log.count log.items (omega (arith, k.0, k.1))))

  -- whoever had the bus, the figures of every channel are those of what was done on it
  pub cycled-tied : (who : Who) → who_of m.dma ≡ who → Tied rom b who t.after.world (cycle_made m t)
  cycled-tied who e =
      let v = t.after.world in
      let made : List Access → Made = λ (a : List Access). record { who = who_of m.dma; held = t.held; after = t.after.dma.state; accesses = a } in
      subst (λ (x : Who). Tied rom b x v (cycle_made m t)) e
      (subst (λ (a : List Access). Tied rom b (who_of m.dma) v (made a)) cycled-listed
      (tied rom _ _ _ v t.held t.after.dma.state (begun-log rom m l h event line hit) (who_of m.dma) (cycled_credited rom m l h event line hit)))
