-- The totals with a share are the figures with one operation more; and the four states of held cycles add up to all of them.
use Prim.Native.Nat.{ℕ, zero, suc, ◌+◌, ◌%◌, ◌<◌}
use mathlib.Core.Bool.{Bool, true, false}
use mathlib.Core.List.{List, [], ◌∷◌, ◌++◌, map}
use mathlib.Core.Path.{◌≡◌, refl, sym, ap, ◌∙◌}
use native.Mathlib.Omega.{arith}
use mir.Val.{bool_byte}
use lib.Dec.{eqb}
use lib.ListN.{length}
use Rattle.common.specs.Pick.{pick}
use Rattle.bus.specs.declared.access.Access.{Access}
use Rattle.state.specs.declared.DmaState.{DmaState}
use Rattle.state.specs.declared.DmaState.TheVariants.{Idle, Startup, Dma, Hdma}
use Rattle.tally.specs.Figure.{Made, writes, state_number, general_bytes, hdma_units, table_bytes, held_in, held_all, channels, states, over, by_channel, by_state, figures_of}
use Rattle.tally.specs.Share.{share_of, more, raised}
use Rattle.touch.specs.declared.who.Who.{Who}
use Rattle.touch.specs.declared.who.Who.TheVariants.{Cpu, Dma as General, Hdma as Served}
use Rattle.tallied.specs.History.{no_cycle}

over_last : (f : Made → ℕ) (l : List Made) (m : Made) → over f (l ++ (m ∷ [])) ≡ f m + over f l
unfolding over
over_last f [] m = refl
over_last f (x ∷ l) m = omega (arith, over_last f l m)

-- four states, one total
state-adds : (m : Made) → held_in 0 m + held_in 1 m + held_in 2 m + held_in 3 m ≡ held_all m
state-adds m = go m.held m.after
  where
    go : (b : Bool) (s : DmaState) → (pick b (pick (eqb (state_number s) 0) 1 0) 0 + pick b (pick (eqb (state_number s) 1) 1 0) 0
        + pick b (pick (eqb (state_number s) 2) 1 0) 0 + pick b (pick (eqb (state_number s) 3) 1 0) 0) ≡ pick b 1 0
    go true Idle = refl
    go true Startup = refl
    go true Dma = refl
    go true Hdma = refl
    go false s = refl

pub split_adds_up : (l : List Made) → over (held_in 0) l + over (held_in 1) l + over (held_in 2) l + over (held_in 3) l ≡ over held_all l
unfolding over
split_adds_up [] = refl
split_adds_up (m ∷ l) = omega (arith, state-adds m, split_adds_up l)

-- ---- one place of a list raised

more_left : (i x : ℕ) (a b : List ℕ) → i < length a → more i x (a ++ b) ≡ more i x a ++ b
more_left i x [] b h = absurd (omega arith)
more_left zero x (y ∷ a) b h = refl
more_left (suc i) x (y ∷ a) b h = ap (λ (l : List ℕ). y ∷ l) (more_left i x a b (omega arith))

more-right : (i j x : ℕ) (a b : List ℕ) → j ≡ i + length a → more j x (a ++ b) ≡ a ++ more i x b
more-right i j x [] b e = let z : j ≡ i = omega arith in rw z
more-right i zero x (y ∷ a) b e = absurd (omega arith)
more-right i (suc j) x (y ∷ a) b e = ap (λ (l : List ℕ). y ∷ l) (more-right i j x a b (omega arith))

-- one of eight, one of four
of_eight : (F : ℕ → ℕ) (x c : ℕ) → c < 8 → more c x (map F channels) ≡ map (λ (i : ℕ). pick (eqb c i) (x + F i) (F i)) channels
of_eight F x zero h = refl
of_eight F x (suc zero) h = refl
of_eight F x (suc (suc zero)) h = refl
of_eight F x (suc (suc (suc zero))) h = refl
of_eight F x (suc (suc (suc (suc zero)))) h = refl
of_eight F x (suc (suc (suc (suc (suc zero))))) h = refl
of_eight F x (suc (suc (suc (suc (suc (suc zero)))))) h = refl
of_eight F x (suc (suc (suc (suc (suc (suc (suc zero))))))) h = refl
of_eight F x (suc (suc (suc (suc (suc (suc (suc (suc c)))))))) h = absurd (omega arith)

of_four : (F : ℕ → ℕ) (x c : ℕ) → c < 4 → more c x (map F states) ≡ map (λ (i : ℕ). pick (eqb c i) (x + F i) (F i)) states
of_four F x zero h = refl
of_four F x (suc zero) h = refl
of_four F x (suc (suc zero)) h = refl
of_four F x (suc (suc (suc zero))) h = refl
of_four F x (suc (suc (suc (suc c)))) h = absurd (omega arith)

map_same : (F G : ℕ → ℕ) → ((i : ℕ) → F i ≡ G i) → (l : List ℕ) → map F l ≡ map G l
map_same F G e [] = refl
map_same F G e (i ∷ l) = λ j. e i j ∷ map_same F G e l j

-- nothing, either way
pub zeros : (b : Bool) → ◌≡◌ {A = ℕ} 0 (pick b 0 0)
zeros true = refl
zeros false = refl

module _ (f : ℕ → Made → ℕ) (l : List Made) (m : Made) (x c : ℕ) (gives : (i : ℕ) → f i m ≡ pick (eqb c i) x 0) where
  each : (i : ℕ) → pick (eqb c i) (x + over (f i) l) (over (f i) l) ≡ over (f i) (l ++ (m ∷ []))
  each i = go (eqb c i) (gives i)
    where
      go : (b : Bool) → f i m ≡ pick b x 0 → pick b (x + over (f i) l) (over (f i) l) ≡ over (f i) (l ++ (m ∷ []))
      go true e = omega (arith, over_last (f i) l m)
      go false e = omega (arith, over_last (f i) l m)

  channel-adds : c < 8 → more c x (by_channel f l) ≡ by_channel f (l ++ (m ∷ []))
  channel-adds h = of_eight (λ (i : ℕ). over (f i) l) x c h ∙ map_same _ _ each channels

  states-add : c < 4 → more c x (map (λ (i : ℕ). over (f i) l) states) ≡ map (λ (i : ℕ). over (f i) (l ++ (m ∷ []))) states
  states-add h = of_four (λ (i : ℕ). over (f i) l) x c h ∙ map_same _ _ each states

-- a channel's number, and a state's
low : (c : ℕ) → c % 8 % 8 ≡ c % 8
low c = omega arith

state-low : (s : DmaState) → (state_number s % 4 ≡ state_number s) × (state_number s < 4)
state-low Idle = (refl, omega arith)
state-low Startup = (refl, omega arith)
state-low Dma = (refl, omega arith)
state-low Hdma = (refl, omega arith)

-- a share's numbers are the operation's figures
module _ (held : Bool) (after : DmaState) (l : List Access) (i : ℕ) where
  abbrev by : Who → Made
  by who = record { who = who; held = held; after = after; accesses = l }

  gives-general : (who : Who) → general_bytes i (by who) ≡ pick (eqb ((share_of (by who)).channel % 8) i) (share_of (by who)).general 0
  unfolding share_of
  gives-general Cpu = zeros (eqb 0 i)
  gives-general (General ch) = rw (low ch)
  gives-general (Served ch) = zeros (eqb (ch % 8 % 8) i)

  gives-units : (who : Who) → hdma_units i (by who) ≡ pick (eqb ((share_of (by who)).channel % 8) i) (share_of (by who)).units 0
  unfolding share_of
  gives-units Cpu = zeros (eqb 0 i)
  gives-units (General ch) = zeros (eqb (ch % 8 % 8) i)
  gives-units (Served ch) = rw (low ch)

  gives-table : (who : Who) → table_bytes i (by who) ≡ pick (eqb ((share_of (by who)).channel % 8) i) (share_of (by who)).table 0
  unfolding share_of
  gives-table Cpu = zeros (eqb 0 i)
  gives-table (General ch) = zeros (eqb (ch % 8 % 8) i)
  gives-table (Served ch) = rw (low ch)

  state-is : (who : Who) → (share_of (by who)).state ≡ state_number after
  unfolding share_of
  state-is Cpu = refl
  state-is (General ch) = refl
  state-is (Served ch) = refl

  held-is : (who : Who) → (share_of (by who)).held ≡ bool_byte held
  unfolding share_of
  held-is Cpu = refl
  held-is (General ch) = refl
  held-is (Served ch) = refl

gives_all : (b : Bool) → pick b 1 0 ≡ bool_byte b
gives_all true = refl
gives_all false = refl

gives-held : (b : Bool) (k i : ℕ) → pick b (pick (eqb k i) 1 0) 0 ≡ pick (eqb k i) (bool_byte b) 0
gives-held true k i = refl
gives-held false k i = zeros (eqb k i)

-- one place of a list in front of others, and behind others
front : (i x : ℕ) (a b : List ℕ) {a' : List ℕ} → i < length a → more i x a ≡ a' → more i x (a ++ b) ≡ a' ++ b
front i x a b h e = more_left i x a b h ∙ ap (λ (l : List ℕ). l ++ b) e

behind : (i j x : ℕ) (a b : List ℕ) {b' : List ℕ} → j ≡ i + length a → more i x b ≡ b' → more j x (a ++ b) ≡ a ++ b'
behind i j x a b h e = more-right i j x a b h ∙ ap (λ (l : List ℕ). a ++ l) e

-- all five totals
pub raised-adds : (l : List Made) (m : Made) → raised (share_of m) (figures_of l) ≡ figures_of (l ++ (m ∷ []))
unfolding raised figures_of
raised-adds l m =
    let s = share_of m in
    let c = s.channel % 8 in
    let k = s.state % 4 in
    let L = l ++ (m ∷ []) in
    let U = by_channel hdma_units l in
    let T = by_channel table_bytes l in
    let A : List ℕ = over held_all l ∷ [] in
    let S : List ℕ = by_state l ++ A in
    let G' = by_channel general_bytes L in
    let U' = by_channel hdma_units L in
    let T' = by_channel table_bytes L in
    let S' = by_state L in
    let state : s.state ≡ state_number m.after = state-is m.held m.after m.accesses 0 m.who in
    let held : s.held ≡ bool_byte m.held = held-is m.held m.after m.accesses 0 m.who in
    let low : k ≡ state_number m.after = ap (λ (n : ℕ). n % 4) state ∙ (state-low m.after).0 in
    let in-state : (i : ℕ) → held_in i m ≡ pick (eqb k i) s.held 0 = λ i. gives-held m.held (state_number m.after) i ∙ (λ j. pick (eqb (sym low j) i) (sym held j) 0) in
    let g = channel-adds general_bytes l m s.general c (λ i. gives-general m.held m.after m.accesses i m.who) (omega arith) in
    let u = channel-adds hdma_units l m s.units c (λ i. gives-units m.held m.after m.accesses i m.who) (omega arith) in
    let t = channel-adds table_bytes l m s.table c (λ i. gives-table m.held m.after m.accesses i m.who) (omega arith) in
    let h = states-add held_in l m s.held k in-state (omega arith) in
    let all : s.held + over held_all l ≡ over held_all L = omega (arith, over_last held_all l m, gives_all m.held, held) in
    let a : more 0 s.held A ≡ over held_all L ∷ [] = ap (λ (n : ℕ). n ∷ []) all in
    ap (λ (x : List ℕ). more 28 s.held (more (k + 24) s.held (more (c + 16) s.table (more (c + 8) s.units x))))
    (front c s.general (by_channel general_bytes l) (U ++ T ++ S) (omega arith) g)
    ∙ ap (λ (x : List ℕ). more 28 s.held (more (k + 24) s.held (more (c + 16) s.table x)))
    (behind c (c + 8) s.units G' (U ++ T ++ S) (omega arith) (front c s.units U (T ++ S) (omega arith) u))
    ∙ ap (λ (x : List ℕ). more 28 s.held (more (k + 24) s.held x))
    (behind (c + 8) (c + 16) s.table G' (U' ++ T ++ S) (omega arith)
    (behind c (c + 8) s.table U' (T ++ S) (omega arith) (front c s.table T S (omega arith) t)))
    ∙ ap (λ (x : List ℕ). more 28 s.held x)
    (behind (k + 16) (k + 24) s.held G' (U' ++ T' ++ S) (omega arith) (behind (k + 8) (k + 16) s.held U' (T' ++ S) (omega arith)
    (behind k (k + 8) s.held T' S (omega arith) (front k s.held (by_state l) A (omega arith) h))))
    ∙ behind 20 28 s.held G' (U' ++ T' ++ S' ++ A) refl (behind 12 20 s.held U' (T' ++ S' ++ A) refl
    (behind 4 12 s.held T' (S' ++ A) refl (behind 0 4 s.held S' A refl a)))

-- an operation that is no cycle adds nothing
adds_none : (f : Made → ℕ) (l : List Made) → f no_cycle ≡ 0 → over f (l ++ (no_cycle ∷ [])) ≡ over f l
adds_none f l e = omega (arith, over_last f l no_cycle)

pub none-adds : (l : List Made) → figures_of (l ++ (no_cycle ∷ [])) ≡ figures_of l
unfolding figures_of writes
none-adds l =
    let G = map_same _ _ (λ i. adds_none (general_bytes i) l refl) channels in
    let U = map_same _ _ (λ i. adds_none (hdma_units i) l refl) channels in
    let T = map_same _ _ (λ i. adds_none (table_bytes i) l refl) channels in
    let S = map_same _ _ (λ i. adds_none (held_in i) l refl) states in
    let A = adds_none held_all l refl in
    λ j. G j ++ U j ++ T j ++ S j ++ A j ∷ []
