-- Cycles of the DMA unit in which it starts nothing and only waits or is idle.
use Rattle.std.proofs.Common.{◌≡◌, ℕ, ◌-◌, ◌<◌, ◌≤◌, Bool, true, false, ◌||◌, eqb, ltb, List, refl, ◌∙◌, arith, ltb-false, ltb-true, lt-ltb, ne_eqb}
use mathlib.Core.Bool.{and-false}
use Rattle.common.specs.Pick.{pick}
use Rattle.bus.specs.World.{World}
use Rattle.hdma.specs.Engine.{at, with_wait}
use Rattle.state.specs.declared.Dma.{Dma}
use Rattle.state.specs.declared.DmaState.TheVariants as state
use Rattle.dma.specs.Cycle.{start_pending, due_of, act_by, acted, cycle_from}

-- a transfer is running, or none is asked for
pub start-same : (d : Dma) (mask clock : ℕ) → (d.running || eqb mask 0) ≡ true → start_pending d mask clock ≡ d
unfolding start_pending
start-same d mask clock h = go d.running (eqb mask 0) _ h
  where
    go : (r z : Bool) (x : Dma) → (r || z) ≡ true → pick r d (pick z d x) ≡ d
    go true z x e = refl
    go false true x e = refl
    go false false x e = cc

module _ (rom : List ℕ) (w : World) (d : Dma) where
  -- a wait goes down
  pub waits : 0 < d.wait → cycle_from rom (at w d) ≡ record { after = at w (with_wait d (d.wait - 1)); held = true }
  unfolding due_of
  waits h = rw (ne_eqb d.wait 0 (λ q. omega (arith, h, q)), and-false d.pending, lt-ltb 0 d.wait h) refl

  -- an idle unit stays so
  pub idles : d.wait ≡ 0 → d.pending ≡ false → d.state ≡ state.Idle → cycle_from rom (at w d) ≡ record { after = at w d; held = false }
  unfolding due_of acted act_by
  idles a b c = rw (b, a, c) refl

  -- the one or the other
  pub calm : (ltb 0 d.wait ≡ false → (d.pending ≡ false) × (d.state ≡ state.Idle))
      → cycle_from rom (at w d) ≡ record { after = at w (with_wait d (d.wait - 1)); held = ltb 0 d.wait }
  calm g = go (ltb 0 d.wait) refl
    where
      go : (b : Bool) → ltb 0 d.wait ≡ b → cycle_from rom (at w d) ≡ record { after = at w (with_wait d (d.wait - 1)); held = b }
      go true e = waits (ltb-true 0 d.wait e)
      go false e =
          let most : d.wait ≤ 0 = ltb-false 0 d.wait e in
          let z : d.wait ≡ 0 = omega (arith, most) in
          let same : d.wait ≡ d.wait - 1 = omega (arith, z) in
          idles z (g e).0 (g e).1 ∙ (λ i. record { after = at w (with_wait d (same i)); held = false })
