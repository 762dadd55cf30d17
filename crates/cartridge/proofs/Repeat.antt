-- The request's sentence (document 02, 1/12): a ROM whose length is a power of two of at least 32,768 repeats, and is never silent from $8000
-- up; every other length keeps document 01's rule.
use Prim.Native.Nat.{ℕ, ◌+◌, ◌-◌, ◌*◌, ◌%◌, ◌^◌, ◌≤◌, ◌<◌}
use mathlib.Core.List.{List}
use mathlib.Core.Path.{◌≡◌, refl, sym, ap, ◌∙◌}
use native.Mathlib.Nat.{add-mod_right, mod-lt}
use native.Mathlib.Omega.{arith}
use lib.Arith.{digits_lt}
use lib.ListN.{length, get_or}
use lib.Pow.{pow_pos, pow-add, high, low, mod-pow-add, mod-mod-pow}
use Rattle.common.proofs.{AllLaws.◌also◌, RangeLaws.below-eight}
use Rattle.cartridge.specs.Cartridge.{rom_offset, rom_place, rom_byte}
use Rattle.cartridge.proofs.Answer.{once, found}

-- at the eight powers of two from 2^15 to 2^22 the offset is taken modulo the length
pub power_wraps : (j i : ℕ) → j < 8 → rom_place (2 ^ (j + 15)) i ≡ i % 2 ^ (j + 15)
unfolding rom_place
power_wraps j i = below-eight (λ k. rom_place (2 ^ (k + 15)) i ≡ i % 2 ^ (k + 15)) refl refl refl refl refl refl refl refl j

-- at every other length it is left as it is
pub other-stays : (n i : ℕ) → ((j : ℕ) → j < 8 → n ≡ 2 ^ (j + 15) → ⊥) → rom_place n i ≡ i
other-stays n i h = sym (once n i
    (h 0 (omega arith) also h 1 (omega arith) also h 2 (omega arith) also h 3 (omega arith)
    also h 4 (omega arith) also h 5 (omega arith) also h 6 (omega arith) also h 7 (omega arith) also tt))

-- a ROM of 32,768 x 2^j bytes, j at most 7, at an address from $8000 up
module _ (rom : List ℕ) (j : ℕ) (small : j < 8) (long : length rom ≡ 32768 * 2 ^ j) (b a : ℕ) (up : 0x8000 ≤ a) (word : a < 65536) where
  -- where the address lies in it: the bank counts modulo 2^j
  abbrev placed : ℕ
  placed = b % 2 ^ j * 32768 + (a - 0x8000)

  bank : b % 128 % 2 ^ j ≡ b % 2 ^ j
  bank = let e : 7 - j + j ≡ 7 = omega (arith, small) in rw e at (mod-mod-pow b (7 - j) j)

  part : a - 0x8000 < 32768
  part = omega arith

  place : rom_place (length rom) (rom_offset b a) ≡ placed
  place =
      let n : length rom ≡ 2 ^ (j + 15) = long ∙ omega (arith, pow-add 2 j 15) in
      ap (λ (k : ℕ). rom_place k (rom_offset b a)) n ∙ power_wraps j (rom_offset b a) small ∙ mod-pow-add (rom_offset b a) j 15
      ∙ (λ i. high (b % 128) 15 part i % 2 ^ j * 32768 + low (b % 128) 15 part i) ∙ ap (λ (k : ℕ). k * 32768 + (a - 0x8000)) bank

  pub inside : placed < length rom
  inside =
      let banks : b % 2 ^ j < 2 ^ j = mod-lt b (pow_pos j) in
      omega (arith, digits_lt banks part, long)

  -- it answers with its byte there, whatever the open bus holds
  pub never-silent : (d : ℕ) → rom_byte rom b a d ≡ get_or rom placed 0
  never-silent d = sym (found rom b a d up refl (sym place) inside)

-- it gives the same byte in banks b and b + 2^j
pub repeats_on : (rom : List ℕ) (j : ℕ) → j < 8 → length rom ≡ 32768 * 2 ^ j → (b a : ℕ) → 0x8000 ≤ a → a < 65536 → (d e : ℕ)
    → rom_byte rom (b + 2 ^ j) a d ≡ rom_byte rom b a e
repeats_on rom j small long b a up word d e =
    never-silent rom j small long (b + 2 ^ j) a up word d
    ∙ ap (λ (k : ℕ). get_or rom (k * 32768 + (a - 0x8000)) 0) (add-mod_right b (2 ^ j))
    ∙ sym (never-silent rom j small long b a up word e)
