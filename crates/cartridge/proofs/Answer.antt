-- Where an offset lies in the ROM, and what the cartridge answers from $8000 up, inside the ROM and past its end.
use Prim.Native.Nat.{ℕ, ◌≤◌, ◌<◌}
use mathlib.Core.List.{List}
use mathlib.Core.Path.{◌≡◌}
use lib.ListN.{length, get_or}
use borrow.Author.Tests.{le-ltb, lt-ltb}
use Rattle.common.specs.All.{AllOf}
use Rattle.common.proofs.TableLaws.{not-among}
use Rattle.cartridge.specs.Cartridge.{rom_offset, repeating, rom_place, rom_byte}

-- a ROM of a length that does not repeat keeps the offset
pub once : (n i : ℕ) → AllOf (λ (k : ℕ). n ≡ k → ⊥) repeating → i ≡ rom_place n i
unfolding rom_place
once n i h = rw (not-among repeating n h)

module _ (rom : List ℕ) {j i : ℕ} (b a d : ℕ) (up : 0x8000 ≤ a) (off : j ≡ rom_offset b a) (at : i ≡ rom_place (length rom) j) where
  pub found : i < length rom → get_or rom i 0 ≡ rom_byte rom b a d
  found h = let k : rom_place (length rom) (rom_offset b a) < length rom = rw (← off, ← at) h in rw (at, off, le-ltb a 0x8000 up, lt-ltb _ _ k)

  pub silent : length rom ≤ i → d ≡ rom_byte rom b a d
  silent h = let k : length rom ≤ rom_place (length rom) (rom_offset b a) = rw (← off, ← at) h in rw (le-ltb a 0x8000 up, le-ltb _ _ k)
