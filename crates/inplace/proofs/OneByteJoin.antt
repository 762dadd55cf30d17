-- The steps of a byte moved on the machine's bytes, joined.
use Rattle.std.proofs.Common.{Option, ◌≡◌, ℕ, ◌+◌, ◌%◌, ◌^◌, ◌≤◌, Bool, true, false, not, ◌&&◌, eqb, ltb, leb, List, [], ◌++◌, length, take, set, replicate, sym, refl, ap, ◌∙◌, arith, length-set}
use Rattle.common.specs.Pick.{pick}
use Rattle.common.proofs.TableLaws.{pick_elim}
use Rattle.asbytes.specs.Answer.{enc_access, accesses_place, answered}
use Rattle.asbytes.specs.{Crossed.crossed, Machine.head_of, Machine.head_in, Machine.summed}
use Rattle.asbytes.proofs.Head.{head-long}
use Rattle.asbytes.specs.Places.{slot_at, count_at, length_at, sum_at}
use Rattle.bus.specs.{Access.push_access, Route.system_route, Route.route_of, Route.place_of}
use Rattle.bus.specs.declared.route.Route.{Route}
use Rattle.entry.specs.Slot.{write_slot}
use Rattle.fields.specs.{Bytes.byte_at, Patch.patched}
use Rattle.fields.specs.Little.{le, span, field}
use Rattle.fields.proofs.Patch.{length-patched}
use Rattle.image.specs.{Encode.enc_olds, Groups.byte, Groups.flag}
use Rattle.layout.specs.Layout as the
use Rattle.layout.specs.Layout.{num, image_size, entry_size}
use Rattle.transfer.specs.{Bits.flag_of, Bits.down, Byte.moved_log, Byte.next_a1t, Byte.trip_of, Pattern.offset_of}
use Rattle.transfer.specs.declared.byte.Trip.{Trip}
use Rattle.way.specs.Seen.{clock_at, nmi_at, busy_at, base_at, unit_at, dmap_at, a1t_at, das_at, bside_at, trip_in}
use Rattle.wram.specs.Banks.{banks, peeked, poked}
use Rattle.wram.specs.{Olds.no_olds, Olds.kept_at, Sum.follows, Olds.Olds, declared.Place.Place}
use Rattle.inplace.specs.OneByte.{wmadd_bytes, place_for, byte_by, byte_from, wmadd_next, written_next, after_move, carried}
use Rattle.inplace.specs.Rest.{at, counting}

-- a channel's registers stand inside the image
pub in_image : (e : List ℕ) {base : ℕ} → base ≡ base_at e → base + 12 ≤ image_size
in_image e h = omega (arith, h)

pub byte_from-by : (e rom l h : List ℕ) (b a : ℕ) {place : Option Place} {held r : ℕ} {way told : Route} → place ≡ place_for e b a
    → held ≡ peeked (banks l h) place → way ≡ route_of b a → way ≡ told → r ≡ byte_by e rom told b a held → r ≡ byte_from e rom l h b a
unfolding byte_from
byte_from-by e rom l h b a p q w t r =
    r ∙ (λ i. byte_by e rom ((sym t ∙ w) i) b a ((q ∙ ap (peeked (banks l h)) p) i))

pub moved_by : (out : List ℕ) (edge : Bool) (t : Trip) (v : ℕ) {a f g b c o : List ℕ} → a ≡ patched out 0 (flag true ++ flag edge ++ byte 2)
    → f ≡ enc_access (record { write = false; bank = t.source.bank; addr = t.source.addr; byte = v })
    → g ≡ enc_access (record { write = true; bank = t.target.bank; addr = t.target.addr; byte = v })
    → b ≡ patched (replicate 55 0) 0 f → c ≡ patched b 5 g → o ≡ patched a accesses_place c → o ≡ answered true edge (moved_log t v) out
unfolding answered moved_log push_access
moved_by out edge t v p q r x y z =
    z ∙ (λ i. patched (p i) accesses_place ((y ∙ (λ j. patched ((x ∙ (λ k. patched (replicate 55 0) 0 (q k))) j) 5 (r j))) i))

-- the APU's bytes, where the byte goes there and where not
module _ (e : List ℕ) (v : ℕ) {w : List ℕ} {base port dmap : ℕ} {back : Bool} (hw : w ≡ span 4 e (at (the.written 0))) (hb : base ≡ base_at e)
    (hp : port ≡ bside_at e) (hd : dmap ≡ byte_at e base) (hf : back ≡ flag_of dmap 0x80) where
  abbrev to_apu : Bool → ℕ → Bool
  to_apu f p = not f && leb 0x2140 p && ltb p 0x2180

  to_apu_lem : to_apu back port ≡ to_apu (flag_of (dmap_at e) 0x80) (bside_at e)
  to_apu_lem = λ i. to_apu ((hf ∙ (λ j. flag_of ((hd ∙ ap (byte_at e) hb) j) 0x80)) i) (hp i)

  abbrev old : List ℕ
  old = span 4 e (at (the.written 0))

  pub written-by : to_apu back port ≡ true → set w (port % 4) v ≡ written_next e v
  unfolding written_next
  written-by t = (λ i. set (hw i) (hp i % 4) v) ∙ (λ i. pick ((sym t ∙ to_apu_lem) i) (set old (bside_at e % 4) v) old)

  pub unwritten_by : to_apu back port ≡ false → w ≡ written_next e v
  unfolding written_next
  unwritten_by t = hw ∙ (λ i. pick ((sym t ∙ to_apu_lem) i) (set old (bside_at e % 4) v) old)

-- there are four of them
pub written-long : (e : List ℕ) (v : ℕ) → length (written_next e v) ≡ 4
unfolding written_next
written-long e v =
    let old = span 4 e (at (the.written 0)) in
    pick_elim (λ (l : List ℕ). length l ≡ 4) (not (flag_of (dmap_at e) 0x80) && leb 0x2140 (bside_at e) && ltb (bside_at e) 0x2180) (length-set old (bside_at e % 4) v) refl

-- the channel's A1T and DAS after a byte
module _ (e : List ℕ) {two : List ℕ} {base : ℕ} (hb : base ≡ base_at e) where
  pub a1t-by : {dmap a a2 : ℕ} → dmap ≡ byte_at e base → a ≡ field 2 e (base + 2) → a2 ≡ next_a1t dmap a → two ≡ le 2 a2
      → two ≡ le 2 (next_a1t (dmap_at e) (a1t_at e))
  a1t-by hd ha hn ht = ht ∙ ap (le 2) (hn ∙ (λ i. next_a1t ((hd ∙ ap (byte_at e) hb) i) ((ha ∙ ap (λ (n : ℕ). field 2 e (n + 2)) hb) i)))

  pub das-by : {d d2 : ℕ} → d ≡ field 2 e (base + 5) → d2 ≡ down 65536 d → two ≡ le 2 d2 → two ≡ le 2 (down 65536 (das_at e))
  das-by hd hn ht = ht ∙ ap (le 2) (hn ∙ ap (down 65536) (hd ∙ ap (λ (n : ℕ). field 2 e (n + 5)) hb))

-- an entry with old bytes has as many bytes as one without
pub noted-long : (s : List ℕ) (o : Olds) → length (patched (head_of s) (at the.old_count) (enc_olds o)) ≡ image_size
noted-long s o = length-patched (head_of s) (enc_olds o) (at the.old_count) ∙ head-long s

-- and so has the image once the byte v has moved
pub moved-long : (s : List ℕ) (v : ℕ) → length (after_move (head_of s) v) ≡ image_size
unfolding after_move
moved-long s v =
    let e = head_of s in
    let r1 = patched e (at the.bank) (wmadd_bytes (wmadd_next e)) in
    let r2 = patched r1 (at the.openbus) (byte v) in
    let r3 = patched r2 (at the.nmi) (flag (nmi_at e)) in
    let u1 = patched r3 (at the.unit) (le 4 ((unit_at e + 1) % 2 ^ 32)) in
    let u2 = patched u1 (at the.wait) (le 4 7) in
    let a1t = at (the.register (busy_at e) the.a1t) in
    let c1 = patched u2 a1t (le 2 (next_a1t (dmap_at e) (a1t_at e))) in
    let das = at (the.register (busy_at e) the.das) in
    let c2 = patched c1 das (le 2 (down 65536 (das_at e))) in
    let w1 = patched c2 (at (the.written 0)) (written_next e v) in
    length-patched w1 (le 8 ((clock_at e + 1) % 2 ^ 64)) (at the.clock) ∙ length-patched c2 (written_next e v) (at (the.written 0))
    ∙ length-patched c1 (le 2 (down 65536 (das_at e))) das ∙ length-patched u2 (le 2 (next_a1t (dmap_at e) (a1t_at e))) a1t
    ∙ length-patched u1 (le 4 7) (at the.wait) ∙ length-patched r3 (le 4 ((unit_at e + 1) % 2 ^ 32)) (at the.unit)
    ∙ length-patched r2 (flag (nmi_at e)) (at the.nmi) ∙ length-patched r1 (byte v) (at the.openbus)
    ∙ length-patched e (wmadd_bytes (wmadd_next e)) (at the.bank) ∙ head-long s

-- what a move reads of the image
record Looked : Type 0 where
  trip : Trip
  byte : ℕ
  place : Option Place
  nmi : Bool
  was : ℕ

module _ (rom l h : List ℕ) where
  abbrev looked : List ℕ → Looked
  looked e =
      let t = trip_in e in
      record {
        trip = t;
        byte = byte_from e rom l h t.source.bank t.source.addr;
        place = place_for e t.target.bank t.target.addr;
        nmi = nmi_at e;
        was = num e the.nmi;
      }

  -- where the image stands it reads the same, also where there are too few bytes
  looked_in : (s : List ℕ) → looked (head_in s) ≡ looked (head_of s)
  unfolding head_of byte_from place_for trip_of offset_of route_of system_route place_of
  looked_in s = go (leb image_size (length s))
    where
      go : (b : Bool) → looked (pick b (take image_size s) []) ≡ looked (pick b (take image_size s) (replicate image_size 0))
      go true = refl
      go false = refl

  module _ (s : List ℕ) {e : List ℕ} {t : Trip} {v was : ℕ} {place : Option Place} {nmi : Bool} (he : e ≡ head_in s) (ht : t ≡ trip_in e)
      (hv : v ≡ byte_from e rom l h t.source.bank t.source.addr) (hp : place ≡ place_for e t.target.bank t.target.addr)
      (hm : nmi ≡ nmi_at e) (hw : was ≡ num e the.nmi) where
    read_so : record { trip = t; byte = v; place = place; nmi = nmi; was = was } ≡ looked (head_of s)
    read_so =
        (λ i.
        record {
          trip = ht i;
          byte = (hv ∙ (λ j. byte_from e rom l h (ht j).source.bank (ht j).source.addr)) i;
          place = (hp ∙ (λ j. place_for e (ht j).target.bank (ht j).target.addr)) i;
          nmi = hm i;
          was = hw i;
        })
        ∙ ap looked he ∙ looked_in s

    pub carried-by : (en out : List ℕ) {l2 h2 en2 s1 s2 s3 o : List ℕ} {slot kept room sum next : ℕ} {none olds : Olds}
        → slot ≡ slot_at s → kept ≡ count_at s → room ≡ length_at s → sum ≡ sum_at s → none ≡ no_olds → olds ≡ kept_at none (banks l h) place
        → next ≡ follows sum (banks l h) (poked (banks l h) place v) → banks l2 h2 ≡ poked (banks l h) place v
        → en2 ≡ write_slot entry_size slot (patched (head_of s) (at the.old_count) (enc_olds olds)) en → s1 ≡ patched s 0 (after_move (head_of s) v)
        → s2 ≡ counting s1 slot kept room → s3 ≡ summed s2 next → o ≡ answered true (nmi && not (eqb was 1)) (moved_log t v) out
        → crossed 0 s3 l2 h2 en2 o ≡ carried rom s l h en out
    unfolding carried
    carried-by en out hs hk hr hu hn ho hf hb hen h1 h2 h3 hout =
        let x = read_so in
        let olds = ho ∙ (λ i. kept_at (hn i) (banks l h) (x i).place) in
        let ram = hb ∙ (λ i. poked (banks l h) (x i).place (x i).byte) in
        let sum = hf ∙ (λ i. follows (hu i) (banks l h) (poked (banks l h) (x i).place (x i).byte)) in
        let moved = h1 ∙ (λ i. patched s 0 (after_move (head_of s) (x i).byte)) in
        let counts = h2 ∙ (λ i. counting (moved i) (hs i) (hk i) (hr i)) in
        λ i.
        crossed 0 ((h3 ∙ (λ j. summed (counts j) (sum j))) i) (ram i).low (ram i).high
        ((hen ∙ (λ j. write_slot entry_size (hs j) (patched (head_of s) (at the.old_count) (enc_olds (olds j))) en)) i)
        ((hout ∙ (λ j. answered true ((x j).nmi && not (eqb (x j).was 1)) (moved_log (x j).trip (x j).byte) out)) i)
