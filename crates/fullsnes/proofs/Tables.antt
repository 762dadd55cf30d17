-- An entry of an HDMA table lasts its lines: $01-$7F transfers on the first of them, $81-$FF on each, and then comes a new entry.
use Prim.Native.Nat.{ℕ, zero, suc, ◌-◌, ◌%◌, ◌<◌}
use mathlib.Core.Bool.{Bool, true, false, not}
use mathlib.Core.Path.{◌≡◌, refl, ap, ◌∙◌}
use native.Mathlib.Omega.{arith}
use borrow.Author.Tests.{ltb-true, ltb-false, ne_eqb, lt-ltb, le-ltb}
use lib.Bits.{bit_and, and_mask, and_high}
use lib.Dec.{eqb, ltb}
use lib.ListN.{length}
use Rattle.common.specs.Pick.{pick}
use Rattle.fullsnes.proofs.Views.{hdma_put, hdma_length}
use Rattle.fullsnes.specs.Said.{lines_of, transfers_on, lines_after}
use Rattle.hdma.specs.{Engine.hdma_at, Entry.counted}
use Rattle.state.specs.declared.{Dma.Dma, HdmaChannelState.HdmaChannelState}
use Rattle.transfer.specs.Bits.{flag_of, down}

-- whether the low seven bits are 0, and bit 7
low_bits : (x : ℕ) → flag_of x 0x7F ≡ not (eqb (x % 128) 0)
low_bits x = ap (λ n. not (eqb n 0)) (and_mask x 7)

high_bit : (x : ℕ) → x < 256 → flag_of x 0x80 ≡ not (ltb x 128)
high_bit x h = go (ltb x 128) refl
  where
    go : (b : Bool) → ltb x 128 ≡ b → flag_of x 0x80 ≡ not b
    go true e = let z : bit_and x 0x80 ≡ 0 = omega (arith, and_high x 1 7, ltb-true x 128 e) in ap (λ n. not (eqb n 0)) z
    go false e = let z : bit_and x 0x80 ≡ 128 = omega (arith, and_high x 1 7, ltb-false x 128 e) in ap (λ n. not (eqb n 0)) z

-- one line: the counter goes down
pub counted_is : (d : Dma) (ch wait : ℕ) → length d.channels ≡ 8
    → hdma_at (counted d ch wait) ch
    ≡ record {
      counter = down 256 (hdma_at d ch).counter;
      transfer = pick (flag_of (hdma_at d ch).counter 0x80) true (not (flag_of (down 256 (hdma_at d ch).counter) 0x7F));
      finished = (hdma_at d ch).finished;
    }
unfolding counted
counted_is d ch wait l = hdma_put d ch _ wait l

counted-length : (d : Dma) (ch wait : ℕ) → length d.channels ≡ 8 → length (counted d ch wait).channels ≡ 8
unfolding counted
counted-length d ch wait l = hdma_length d ch _ wait l

-- line i of an entry c that has just been read
record OnLine (c i : ℕ) (d : Dma) (ch : ℕ) : Type 0 where
  long : length d.channels ≡ 8
  counter : (hdma_at d ch).counter ≡ c - i
  transfer : (hdma_at d ch).transfer ≡ transfers_on c i

module _ (c : ℕ) (byte : c < 256) (ch : ℕ) where
  next : (i : ℕ) (d : Dma) → suc i < lines_of c → OnLine c i d ch → OnLine c (suc i) (counted d ch 0) ch
  next i d h o =
      let n : ℕ = (hdma_at d ch).counter in
      let e = counted_is d ch 0 o.long in
      let below : down 256 n ≡ c - suc i = omega (arith, o.counter) in
      let some : (c - suc i) % 128 ≡ lines_of c - suc i = omega arith in
      record {
        long = counted-length d ch 0 o.long;
        counter = ap (λ (x : HdmaChannelState). x.counter) e ∙ below;
        transfer =
            ap (λ (x : HdmaChannelState). x.transfer) e
            ∙ (λ j. pick (high_bit n (omega (arith, o.counter)) j) true (not (flag_of (below j) 0x7F)))
            ∙ (λ j. pick (not (ltb (o.counter j) 128)) true (not (low_bits (c - suc i) j)))
            ∙ (λ j. pick (not (ltb (c - i) 128)) true (not (not (eqb (some j) 0))))
            ∙ judged i h;
      }
    where
      judged : (i : ℕ) → suc i < lines_of c → pick (not (ltb (c - i) 128)) true (not (not (eqb (lines_of c - suc i) 0))) ≡ transfers_on c (suc i)
      judged i h = go (ltb c 128) refl
        where
          go : (b : Bool) → ltb c 128 ≡ b → pick (not (ltb (c - i) 128)) true (not (not (eqb (lines_of c - suc i) 0))) ≡ pick b (eqb (suc i) 0) true
          go true e =
              rw (lt-ltb (c - i) 128 (omega (arith, ltb-true c 128 e)), ne_eqb (lines_of c - suc i) 0 (λ z. omega arith), ne_eqb (suc i) 0 (λ z. omega arith))
          go false e = rw (le-ltb (c - i) 128 (omega (arith, ltb-false c 128 e)))

  on_line_lem : (d : Dma) → length d.channels ≡ 8 → (hdma_at d ch).counter ≡ c → (hdma_at d ch).transfer ≡ true → (i : ℕ) → i < lines_of c → OnLine c i (lines_after i d ch) ch
  unfolding lines_after
  on_line_lem d l p q zero h = record { long = l; counter = p ∙ omega arith; transfer = q ∙ first }
    where
      first : true ≡ transfers_on c 0
      first = go (ltb c 128)
        where
          go : (b : Bool) → true ≡ pick b (eqb 0 0) true
          go true = refl
          go false = refl
  on_line_lem d l p q (suc i) h = next i (lines_after i d ch) h (on_line_lem d l p q i (omega arith))

  -- on each of its lines an entry transfers as its kind says
  pub entry_transfers : (d : Dma) → length d.channels ≡ 8 → (hdma_at d ch).counter ≡ c → (hdma_at d ch).transfer ≡ true → (i : ℕ) → i < lines_of c
      → (hdma_at (lines_after i d ch) ch).transfer ≡ transfers_on c i
  entry_transfers d l p q i h = (on_line_lem d l p q i h).transfer

  -- while it lasts no new entry is read: the low seven bits are not 0
  pub entry-lasts : (d : Dma) → length d.channels ≡ 8 → (hdma_at d ch).counter ≡ c → (hdma_at d ch).transfer ≡ true → (i : ℕ) → i < lines_of c
      → flag_of (hdma_at (lines_after i d ch) ch).counter 0x7F ≡ true
  entry-lasts d l p q i h =
      let o = on_line_lem d l p q i h in
      ap (λ n. flag_of n 0x7F) o.counter ∙ low_bits (c - i) ∙ rw (ne_eqb ((c - i) % 128) 0 (λ z. omega arith))

  -- after its lines a new entry is due
  pub entry-ends : (d : Dma) → length d.channels ≡ 8 → (hdma_at d ch).counter ≡ c → (hdma_at d ch).transfer ≡ true → 0 < lines_of c
      → flag_of (hdma_at (lines_after (lines_of c) d ch) ch).counter 0x7F ≡ false
  unfolding lines_after
  entry-ends d l p q h = go (lines_of c) refl h
    where
      go : (n : ℕ) → lines_of c ≡ n → 0 < n → flag_of (hdma_at (lines_after n d ch) ch).counter 0x7F ≡ false
      go zero e k = absurd (omega arith)
      go (suc n) e k =
          let o = on_line_lem d l p q n (omega arith) in
          let x = lines_after n d ch in
          let z : down 256 (hdma_at x ch).counter % 128 ≡ 0 = omega (arith, o.counter) in
          ap (λ (y : HdmaChannelState). flag_of y.counter 0x7F) (counted_is x ch 0 o.long) ∙ low_bits (down 256 (hdma_at x ch).counter) ∙ ap (λ m. not (eqb m 0)) z
