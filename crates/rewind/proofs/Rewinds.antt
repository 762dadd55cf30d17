-- Demand 3, proved: a run of operations and back steps, some refused, comes to what its survivors alone come to.
use Prim.Native.Nat.{ℕ, zero, suc, ◌+◌, ◌-◌, ◌%◌, ◌≤◌, ◌<◌, min}
use mathlib.Core.Bool.{true, false}
use mathlib.Core.List.{List, [], ◌∷◌, ◌++◌, map, reverse, reverse-cons}
use mathlib.Core.Logic.{◌≢◌, inl}
use mathlib.Core.Path.{◌≡◌, refl, sym, ap, ◌∙◌, subst}
use native.Mathlib.Decide.{dec_lt}
use native.Mathlib.Omega.{arith}
use borrow.Author.Tests.{eq-eqb, ne_eqb}
use lib.Dec.{eqb}
use lib.ListN.{length, take}
use Rattle.bench.specs.Calls.{Desk, lent_of, recorded, restored}
use Rattle.ring.specs.Slots.{after, before, noted}
use Rattle.common.specs.{All.AllOf, Pick.pick, Width.Bytes}
use Rattle.entry.proofs.Entries.{read-written, other-slots}
use Rattle.entry.specs.Entry.{decode, decode_at}
use Rattle.entry.specs.declared.Decoded.{Decoded}
use Rattle.layout.specs.Layout.{entry_size, capacity}
use Rattle.ranges.proofs.MachineLaws.{passes}
use Rattle.rewind.proofs.Calls.{number_of, reply, SoundDesk, lent-stands, op-keeps, op-called, back_none, back_some, op-sound, back-sound}
use Rattle.rewind.proofs.Good.{Good, lawful}
use Rattle.rewind.proofs.Slots.{before_lt, before-after, Behind, behind-step, behind_ne, behind-cap}
use Rattle.rewind.specs.History.{Deed, did, rest, survive, survivors_from, survivors, Placed, Shelf, without, keep, keep_from, kept_ops}
use Rattle.rewind.specs.Promise.{on_record, Sound, Rewound}
use Rattle.rewind.specs.Rules.{Op, Typed, State, Done, obeyed, obeyed_all}
use Rattle.rewind.specs.Run.{Call, operation, back, TypedCall, Reply, called, Met, deed, deed_at, run, deeds, deeds_at, state_of}
use Rattle.wram.proofs.SumLaws.{follow-true}
use Rattle.wram.specs.{Olds.put_back, Sum.follows}

-- the accepted operations, the latest first, and the states that they met
abbrev pub Trace : Type 0
Trace = List Met

abbrev pub ops : Trace → List Op
ops [] = []
ops (p ∷ ps) = p.op ∷ ops ps

module _ (rom : List ℕ) (bytes : Bytes rom) (small : length rom ≤ 4194304) (len : ℕ) (pos : 0 < len) (whole : len % entry_size ≡ 0) where
  abbrev pub cap : ℕ
  cap = capacity len

  -- the accepted operations, the latest first, lead from s₀ to s
  abbrev pub Trail : State → Trace → State → Type 0
  Trail s₀ [] s = s ≡ s₀
  Trail s₀ (p ∷ ps) s = Good p.was × Typed p.op × (number_of p.op p.was.machine ≡ 0) × ((obeyed rom p.op p.was).state ≡ s) × Trail s₀ ps p.was

  -- the entry of an accepted operation
  abbrev pub entry_of : Met → Decoded
  entry_of p = record { ok = true; machine = p.was.machine; olds = (obeyed rom p.op p.was).olds }

  -- the entries of the latest k operations stand in the k slots before slot n
  abbrev pub Holds : List ℕ → (n k : ℕ) → Trace → Type 0
  Holds r n zero ps = Unit {0}
  Holds r n (suc k) [] = ⊥
  Holds r n (suc k) (p ∷ ps) = (decode_at r (before cap n) ≡ entry_of p) × Holds r (before cap n) k ps

  -- the latest k operations with the slots before slot n
  abbrev placed : (n k : ℕ) → Trace → List (Placed Op)
  placed n zero ps = []
  placed n (suc k) [] = []
  placed n (suc k) (p ∷ ps) = record { op = p.op; slot = before cap n } ∷ placed (before cap n) k ps

  placed-length : (r : List ℕ) (n k : ℕ) (ps : Trace) → Holds r n k ps → length (placed n k ps) ≡ k
  placed-length r n zero ps H = refl
  placed-length r n (suc k) [] H = absurd H
  placed-length r n (suc k) (p ∷ ps) H = ap suc (placed-length r (before cap n) k ps H.1)

  placed-ops : (n k : ℕ) (ps : Trace) → map (λ p. p.op) (placed n k ps) ≡ take k (ops ps)
  placed-ops n zero ps = refl
  placed-ops n (suc k) [] = refl
  placed-ops n (suc k) (p ∷ ps) = ap (λ (l : List Op). p.op ∷ l) (placed-ops (before cap n) k ps)

  holds-less : (r : List ℕ) (n k j : ℕ) (ps : Trace) → j ≤ k → Holds r n k ps → Holds r n j ps
  holds-less r n k zero ps h H = tt {0}
  holds-less r n zero (suc j) ps h H = absurd (omega arith)
  holds-less r n (suc k) (suc j) [] h H = H
  holds-less r n (suc k) (suc j) (p ∷ ps) h H = (H.0, holds-less r (before cap n) k j ps (omega arith) H.1)

  -- the entry of another slot
  other : (d : Desk) (x : Done) (j : ℕ) → j ≢ d.bench.slot → decode_at (recorded d x.state.machine x.olds x.state.ram).entries j ≡ decode_at d.entries j
  unfolding decode_at noted
  other d x j ne = ap decode (other-slots d.entries d.bench.slot d.bench.machine x.olds j ne)

  module _ (d : Desk) (x : Done) where
    abbrev noted-entries : List ℕ
    noted-entries = (recorded d x.state.machine x.olds x.state.ram).entries

    -- an entry written leaves those that stand behind it, as far as they do not come round to it
    holds-write : (m e k : ℕ) (ps : Trace) → m < cap → e + k < cap → Behind cap d.bench.slot m e → Holds d.entries m k ps → Holds noted-entries m k ps
    holds-write m e zero ps mc ek B H = tt {0}
    holds-write m e (suc k) [] mc ek B H = H
    holds-write m e (suc k) (p ∷ ps) mc ek B H =
        let n = d.bench.slot in
        let B' : Behind cap n (before cap m) (suc e) = behind-step cap n m e mc (omega arith) B in
        let ne : before cap m ≢ n = behind_ne cap n (before cap m) (suc e) (omega arith) (omega arith) B' in
        (other d x (before cap m) ne ∙ H.0, holds-write (before cap m) (suc e) k ps (before_lt cap m mc) (omega arith) B' H.1)

  -- no kept operation loses its slot while there are fewer than the capacity
  without-none : (n m e k : ℕ) (ps : Trace) → m < cap → e + k < cap → Behind cap n m e → without n (placed m k ps) ≡ placed m k ps
  unfolding without
  without-none n m e zero ps mc ek B = refl
  without-none n m e (suc k) [] mc ek B = refl
  without-none n m e (suc k) (p ∷ ps) mc ek B =
      let B' : Behind cap n (before cap m) (suc e) = behind-step cap n m e mc (omega arith) B in
      let ne : before cap m ≢ n = behind_ne cap n (before cap m) (suc e) (omega arith) (omega arith) B' in
      let x : Placed Op = record { op = p.op; slot = before cap m } in
      rw (ne_eqb (before cap m) n ne) (ap (λ (l : List (Placed Op)). x ∷ l) (without-none n (before cap m) (suc e) k ps (before_lt cap m mc) (omega arith) B'))

  -- with as many as the capacity the oldest loses its slot
  without-last : (n m e k : ℕ) (ps : Trace) → n < cap → m < cap → e + suc k ≡ cap → Behind cap n m e → without n (placed m (suc k) ps) ≡ placed m k ps
  unfolding without
  without-last n m e zero [] nc mc ek B = refl
  without-last n m e (suc k) [] nc mc ek B = refl
  without-last n m e zero (p ∷ ps) nc mc ek B =
      let B' : Behind cap n (before cap m) (suc e) = behind-step cap n m e mc (omega arith) B in
      let l : suc e ≡ cap = omega arith in
      let B'' : Behind cap n (before cap m) cap = rw l at B' in
      rw (eq-eqb (before cap m) n (behind-cap cap n (before cap m) (before_lt cap m mc) nc B''))
  without-last n m e (suc k) (p ∷ ps) nc mc ek B =
      let B' : Behind cap n (before cap m) (suc e) = behind-step cap n m e mc (omega arith) B in
      let ne : before cap m ≢ n = behind_ne cap n (before cap m) (suc e) (omega arith) (omega arith) B' in
      let x : Placed Op = record { op = p.op; slot = before cap m } in
      rw (ne_eqb (before cap m) n ne) (ap (λ (l : List (Placed Op)). x ∷ l) (without-last n (before cap m) (suc e) k ps nc (before_lt cap m mc) (omega arith) B'))

  -- ---- one call

  -- the accepted operations lead here, and the latest of them stand in the record
  pub record Inv (s₀ : State) (d : Desk) (ps : Trace) : Type 0 where
    pub sound : SoundDesk len d
    pub trail : Trail s₀ ps (state_of d)
    pub holds : Holds d.entries d.bench.slot d.bench.kept ps

  abbrev shelf : Desk → Trace → Shelf Op
  shelf d ps = record { next = d.bench.slot; held = placed d.bench.slot d.bench.kept ps }

  -- what a call with a reply does to the invariant and to the history
  record Onward (s₀ : State) (ps : Trace) (c : Call) (d : Desk) (r : Reply) : Type 0 where
    trace : Trace
    inv : Inv s₀ r.desk trace
    live : survive (deed c r.number) (ops ps) ≡ ops trace
    met : survive (deed_at c d r.number) ps ≡ trace
    kept : keep cap (deed c r.number) (shelf d ps) ≡ shelf r.desk trace

  stays : (s₀ : State) (ps : Trace) (c : Call) (d : Desk) (n : ℕ) → eqb n 0 ≡ false → Inv s₀ d ps → Onward s₀ ps c d (record { number = n; desk = d })
  unfolding survive keep
  stays s₀ ps c d n z I = record { trace = ps; inv = I; live = rw z; met = rw z; kept = rw z }

  module _ (s₀ : State) (d : Desk) (ps : Trace) (I : Inv s₀ d ps) where
    abbrev here : State
    here = state_of d

    fresh-cap : capacity d.bench.length ≡ cap
    fresh-cap = ap capacity I.sound.stands.fresh

    -- an accepted operation whose record keeps j older ones
    taken : (o : Op) → Typed o → number_of o d.bench.machine ≡ 0 → (j : ℕ) → min (d.bench.kept + 1) cap ≡ suc j → j ≤ d.bench.kept → j < cap
        → without d.bench.slot (placed d.bench.slot d.bench.kept ps) ≡ placed d.bench.slot j ps
        → Onward s₀ ps (operation o) d (reply 0 d (obeyed rom o here))
    unfolding survive keep noted
    taken o t z j e jk jc w =
        let x = obeyed rom o here in
        let n = d.bench.slot in
        let L = lawful rom bytes o t here I.sound.stands.good in
        let g = I.sound.stands.good in
        let slot_in : n < capacity (length d.entries) = rw I.sound.stands.long I.sound.stands.slot_in in
        let newest = read-written d.bench.machine x.olds g.fits (passes d.bench.machine g.ranges) L.olds-ok d.entries n slot_in in
        let ba : before cap (after cap n) ≡ n = before-after cap n I.sound.stands.slot_in in
        let older = holds-write d x n 0 j ps I.sound.stands.slot_in (omega arith) (inl (omega arith)) (holds-less d.entries n d.bench.kept j ps jk I.holds) in
        record {
          trace = record { op = o; was = here } ∷ ps;
          inv =
              record {
                sound = op-keeps rom bytes len d I.sound o t;
                trail = (g, t, z, refl, I.trail);
                holds = rw (fresh-cap, e, ba) (newest, older);
              };
          live = refl;
          met = refl;
          kept = rw (fresh-cap, e, ba, w);
        }

    op-taken : (o : Op) → Typed o → number_of o d.bench.machine ≡ 0 → Onward s₀ ps (operation o) d (reply 0 d (obeyed rom o here))
    op-taken o t z =
        let S = I.sound in
        let n = d.bench.slot in
        let k = d.bench.kept in
        elim (dec_lt k cap) [
          | yes h ↦ taken o t z k (omega arith) (omega arith) h (without-none n n 0 k ps S.stands.slot_in (omega arith) (inl (omega arith)))
          | no h ↦
              let c : k ≡ suc (cap - 1) = omega (arith, S.stands.kept_in, S.stands.slot_in) in
              let w : without n (placed n k ps) ≡ placed n (cap - 1) ps = rw c (without-last n n 0 (cap - 1) ps S.stands.slot_in S.stands.slot_in (omega arith) (inl (omega arith))) in
              taken o t z (cap - 1) (omega arith) (omega arith) (omega arith) w
        ]

    op-onward : (o : Op) → Typed o → (n : ℕ) → number_of o d.bench.machine ≡ n → Onward s₀ ps (operation o) d (reply n d (obeyed rom o here))
    op-onward o t zero e = op-taken o t e
    op-onward o t (suc n) e =
        let z : eqb (suc n) 0 ≡ false = ne_eqb (suc n) 0 (λ q. omega arith) in
        let x = obeyed rom o here in
        let r : reply (suc n) d x ≡ record { number = suc n; desk = d } = rw z in
        subst (λ (y : Reply). Onward s₀ ps (operation o) d y) (sym r) (stays s₀ ps (operation o) d (suc n) z I)

    lent_none : (n : ℕ) → n ≤ 4194304 → lent_of d n ≡ 0
    lent_none n h = lent-stands len n d pos whole h I.sound.stands

    operation-onward : (o : Op) → Typed o → Onward s₀ ps (operation o) d (called rom (operation o) d)
    operation-onward o t = rw (op-called rom d (lent_none (length rom) small) I.sound.summed o) (op-onward o t (number_of o d.bench.machine) refl)

  -- a back step where k + 1 operations are kept
  strike : (s₀ : State) (d : Desk) (ps : Trace) (k : ℕ) → Inv s₀ d ps → d.bench.kept ≡ suc k → Trail s₀ ps (state_of d) → Holds d.entries d.bench.slot (suc k) ps
      → Onward s₀ ps back d (called rom back d)
  unfolding survive keep rest
  strike s₀ d [] k I e T H = absurd H
  strike s₀ d (p ∷ ps) k I e T H =
      let S = I.sound in
      let c = fresh-cap s₀ d (p ∷ ps) I in
      let slot = before cap d.bench.slot in
      let less : d.bench.kept - 1 ≡ k = omega arith in
      let L = lawful rom bytes p.op T.1 p.was T.0 in
      let ram : put_back (entry_of p).olds d.ram ≡ p.was.ram = ap (λ (s : State). put_back (entry_of p).olds s.ram) (sym T.3) ∙ L.undo in
      let at : decode_at d.entries (before (capacity d.bench.length) d.bench.slot) ≡ entry_of p = rw c H.0 in
      let b = back_some rom d (lent_none s₀ d (p ∷ ps) I 0 (omega arith)) k (entry_of p) e at refl in
      let st : state_of (restored d (entry_of p) slot) ≡ p.was = λ i. record { machine = p.was.machine; ram = ram i } in
      rw (b, c)
      (record {
        trace = ps;
        inv =
            record {
              sound =
                  record {
                    stands =
                        record {
                          good = rw st T.0;
                          long = S.stands.long;
                          fresh = S.stands.fresh;
                          slot_in = before_lt cap d.bench.slot S.stands.slot_in;
                          kept_in = omega (arith, S.stands.kept_in);
                        };
                    summed = let was = put_back (entry_of p).olds d.ram in ap (λ (n : ℕ). follows n d.ram was) S.summed ∙ follow-true d.ram was;
                  };
              trail = rw st T.4;
              holds = rw less H.1;
            };
        live = refl;
        met = refl;
        kept = rw (less, e);
      })

  back-onward : (s₀ : State) (d : Desk) (ps : Trace) → Inv s₀ d ps → (k : ℕ) → d.bench.kept ≡ k → Onward s₀ ps back d (called rom back d)
  back-onward s₀ d ps I zero e = rw (back_none rom d (lent_none s₀ d ps I 0 (omega arith)) e) (stays s₀ ps back d 8 refl I)
  back-onward s₀ d ps I (suc k) e = strike s₀ d ps k I e I.trail (rw e at I.holds)

  onward : (s₀ : State) (d : Desk) (ps : Trace) → Inv s₀ d ps → (c : Call) → TypedCall c → Onward s₀ ps c d (called rom c d)
  onward s₀ d ps I (operation o) t = operation-onward s₀ d ps I o t
  onward s₀ d ps I back t = back-onward s₀ d ps I d.bench.kept refl

  -- ---- a run

  record Ended (s₀ : State) (d : Desk) (ps : Trace) (cs : List Call) : Type 0 where
    trace : Trace
    inv : Inv s₀ (run rom d cs) trace
    live : survivors_from (ops ps) (deeds rom d cs) ≡ ops trace
    met : survivors_from ps (deeds_at rom d cs) ≡ trace
    kept : keep_from cap (shelf d ps) (deeds rom d cs) ≡ shelf (run rom d cs) trace

  ended : (s₀ : State) (d : Desk) (ps : Trace) → Inv s₀ d ps → (cs : List Call) → AllOf TypedCall cs → Ended s₀ d ps cs
  unfolding run deeds deeds_at survivors_from keep_from
  ended s₀ d ps I [] t = record { trace = ps; inv = I; live = refl; met = refl; kept = refl }
  ended s₀ d ps I (c ∷ cs) t =
      let N = onward s₀ d ps I c t.0 in
      let E = ended s₀ (called rom c d).desk N.trace N.inv cs t.1 in
      let ds = deeds rom (called rom c d).desk cs in
      record {
        trace = E.trace;
        inv = E.inv;
        live = ap (λ (l : List Op). survivors_from l ds) N.live ∙ E.live;
        met = ap (λ (l : Trace). survivors_from l (deeds_at rom (called rom c d).desk cs)) N.met ∙ E.met;
        kept = ap (λ (k : Shelf Op). keep_from cap k ds) N.kept ∙ E.kept;
      }

  -- ---- the survivors alone

  obeyed-last : (s : State) (os : List Op) (o : Op) → obeyed_all rom s (os ++ (o ∷ [])) ≡ (obeyed rom o (obeyed_all rom s os)).state
  unfolding obeyed_all
  obeyed-last s [] o = refl
  obeyed-last s (x ∷ os) o = obeyed-last (obeyed rom x s).state os o

  -- by the rules
  trail-rules : (s₀ s : State) (ps : Trace) → Trail s₀ ps s → obeyed_all rom s₀ (reverse (ops ps)) ≡ s
  unfolding obeyed_all
  trail-rules s₀ s [] T = sym T
  trail-rules s₀ s (p ∷ ps) T =
      ap (λ (l : List Op). obeyed_all rom s₀ l) (reverse-cons p.op (ops ps))
      ∙ obeyed-last s₀ (reverse (ops ps)) p.op
      ∙ ap (λ (x : State). (obeyed rom p.op x).state) (trail-rules s₀ p.was ps T.4)
      ∙ T.3

  -- each is accepted where the ones before it lead
  abbrev Goes : State → List Op → Type 0
  Goes s [] = Unit {0}
  Goes s (o ∷ os) = Typed o × (number_of o s.machine ≡ 0) × Goes (obeyed rom o s).state os

  goes_last : (s : State) (os : List Op) (o : Op) → Goes s os → Typed o → number_of o (obeyed_all rom s os).machine ≡ 0 → Goes s (os ++ (o ∷ []))
  unfolding obeyed_all
  goes_last s [] o G t z = (t, z, tt {0})
  goes_last s (x ∷ os) o G t z = (G.0, G.1, goes_last (obeyed rom x s).state os o G.2 t z)

  trail-goes : (s₀ s : State) (ps : Trace) → Trail s₀ ps s → Goes s₀ (reverse (ops ps))
  trail-goes s₀ s [] T = tt {0}
  trail-goes s₀ s (p ∷ ps) T =
      let z = ap (λ (x : State). number_of p.op x.machine) (trail-rules s₀ p.was ps T.4) ∙ T.2 in
      rw reverse-cons (goes_last s₀ (reverse (ops ps)) p.op (trail-goes s₀ p.was ps T.4) T.1 z)

  -- an operation that is not refused
  accepted : (s₀ : State) (d : Desk) (ps : Trace) → Inv s₀ d ps → (o : Op) → number_of o d.bench.machine ≡ 0 → called rom (operation o) d ≡ reply 0 d (obeyed rom o (state_of d))
  accepted s₀ d ps I o z =
      op-called rom d (lent_none s₀ d ps I (length rom) small) I.sound.summed o ∙ ap (λ (n : ℕ). reply n d (obeyed rom o (state_of d))) z

  -- called one after another they come to what the rules give
  run_alone : (s₀ : State) (d : Desk) (ps : Trace) → Inv s₀ d ps → (os : List Op) → Goes (state_of d) os → state_of (run rom d (map operation os)) ≡ obeyed_all rom (state_of d) os
  unfolding run obeyed_all noted
  run_alone s₀ d ps I [] G = refl
  run_alone s₀ d ps I (o ∷ os) G =
      let x = obeyed rom o (state_of d) in
      let N = op-taken s₀ d ps I o G.0 G.1 in
      ap (λ (r : Reply). state_of (run rom r.desk (map operation os))) (accepted s₀ d ps I o G.1) ∙ run_alone s₀ (reply 0 d x).desk N.trace N.inv os G.2

  -- each meets the state that the ones before it lead to
  abbrev meets : State → List Op → Trace
  meets s [] = []
  meets s (o ∷ os) = record { op = o; was = s } ∷ meets (obeyed rom o s).state os

  meets-last : (s : State) (os : List Op) (o : Op) → meets s (os ++ (o ∷ [])) ≡ meets s os ++ (record { op = o; was = obeyed_all rom s os } ∷ [])
  unfolding obeyed_all
  meets-last s [] o = refl
  meets-last s (x ∷ os) o = ap (λ (l : Trace). record { op = x; was = s } ∷ l) (meets-last (obeyed rom x s).state os o)

  trail-meets : (s₀ s : State) (ps : Trace) → Trail s₀ ps s → meets s₀ (reverse (ops ps)) ≡ reverse ps
  trail-meets s₀ s [] T = refl
  trail-meets s₀ s (p ∷ ps) T =
      ap (meets s₀) (reverse-cons p.op (ops ps))
      ∙ meets-last s₀ (reverse (ops ps)) p.op
      ∙ (λ i. trail-meets s₀ p.was ps T.4 i ++ (record { op = p.op; was = trail-rules s₀ p.was ps T.4 i } ∷ []))
      ∙ sym (reverse-cons p ps)

  alone-meets : (s₀ : State) (d : Desk) (ps : Trace) → Inv s₀ d ps → (os : List Op) → Goes (state_of d) os → deeds_at rom d (map operation os) ≡ map did (meets (state_of d) os)
  unfolding deeds_at noted
  alone-meets s₀ d ps I [] G = refl
  alone-meets s₀ d ps I (o ∷ os) G =
      let N = op-taken s₀ d ps I o G.0 G.1 in
      ap (λ (r : Reply). deed_at (operation o) d r.number ∷ deeds_at rom r.desk (map operation os)) (accepted s₀ d ps I o G.1)
      ∙ ap (λ (l : List (Deed Met)). did (record { op = o; was = state_of d }) ∷ l) (alone-meets s₀ (reply 0 d (obeyed rom o (state_of d))).desk N.trace N.inv os G.2)

  -- ---- the promise

  module _ (s₀ : State) (d : Desk) (ps : Trace) (I : Inv s₀ d ps) where
    back-number : (k : ℕ) (qs : Trace) → d.bench.kept ≡ k → Holds d.entries d.bench.slot k qs → (called rom back d).number ≡ pick (eqb k 0) 8 0
    back-number zero qs e H = ap (λ (r : Reply). r.number) (back_none rom d (lent_none s₀ d ps I 0 (omega arith)) e)
    back-number (suc k) [] e H = absurd H
    back-number (suc k) (p ∷ qs) e H =
        let at : decode_at d.entries (before (capacity d.bench.length) d.bench.slot) ≡ entry_of p = rw (fresh-cap s₀ d ps I) H.0 in
        rw (ne_eqb (suc k) 0 (λ z. omega arith)) (ap (λ (r : Reply). r.number) (back_some rom d (lent_none s₀ d ps I 0 (omega arith)) k (entry_of p) e at refl))

    call-sound : (c : Call) → TypedCall c → Sound (called rom c d).number
    call-sound (operation o) t =
        rw (op-called rom d (lent_none s₀ d ps I (length rom) small) I.sound.summed o) (op-sound o d.bench.machine d (obeyed rom o (state_of d)))
    call-sound back t = rw (back-number d.bench.kept ps refl I.holds) (back-sound d.bench.kept)

  module _ (d₀ : Desk) (fresh : d₀.bench.length ≡ len) (slot : d₀.bench.slot ≡ 0) (kept : d₀.bench.kept ≡ 0) (I : (entries : List ℕ) → length entries ≡ length d₀.entries → Inv (state_of d₀) (on_record d₀ entries) []) (cs : List Call) (t : AllOf TypedCall cs) where
    pub promised : Rewound rom d₀ cs
    unfolding survivors kept_ops
    promised =
        let I₀ = I d₀.entries refl in
        let E = ended (state_of d₀) d₀ [] I₀ cs t in
        let d = run rom d₀ cs in
        let J = E.inv in
        let ds = deeds rom d₀ cs in
        let c : capacity d₀.bench.length ≡ cap = ap capacity fresh in
        let live : survivors ds ≡ ops E.trace = E.live in
        let start : shelf d₀ [] ≡ record { next = 0; held = [] } = rw (slot, kept) in
        let held : kept_ops (capacity d₀.bench.length) ds ≡ placed d.bench.slot d.bench.kept E.trace =
        rw c (ap (λ (k : Shelf Op). (keep_from cap k ds).held) (sym start) ∙ ap (λ (k : Shelf Op). k.held) E.kept) in
        let l : length (kept_ops (capacity d₀.bench.length) ds) ≡ d.bench.kept = ap length held ∙ placed-length d.entries d.bench.slot d.bench.kept E.trace J.holds in
        let rules : obeyed_all rom (state_of d₀) (reverse (survivors ds)) ≡ state_of d = rw live (trail-rules (state_of d₀) (state_of d) E.trace J.trail) in
        let goes : Goes (state_of d₀) (reverse (survivors ds)) = rw live (trail-goes (state_of d₀) (state_of d) E.trace J.trail) in
        record {
          alone = run_alone (state_of d₀) d₀ [] I₀ (reverse (survivors ds)) goes ∙ rules;
          rules = rules;
          met = λ entries h.
              alone-meets (state_of d₀) (on_record d₀ entries) [] (I entries h) (reverse (survivors ds)) goes
              ∙ (λ i. map did (meets (state_of d₀) (reverse (live i))))
              ∙ ap (map did) (trail-meets (state_of d₀) (state_of d) E.trace J.trail)
              ∙ sym (ap (λ (l : Trace). map did (reverse l)) E.met);
          counted = sym l;
          latest = ap (map (λ p. p.op)) held ∙ placed-ops d.bench.slot d.bench.kept E.trace ∙ (λ i. take (sym l i) (sym live i));
          refused = back-number (state_of d₀) d E.trace J d.bench.kept E.trace refl J.holds ∙ ap (λ (k : ℕ). pick (eqb k 0) 8 0) (sym l);
          summed = J.sound.summed;
          sizes = (J.sound.stands.good.low-length, J.sound.stands.good.high-length, J.sound.stands.long ∙ sym I₀.sound.stands.long);
          sound = call-sound (state_of d₀) d E.trace J;
        }
