-- The machine as it crosses to another language: its image without old bytes, then next slot, kept, record length and the sum of work RAM.
use Rattle.std.specs.Prelude.{ℕ, ◌&&◌, List, [], eqb, leb, length, take, replicate}
use Rattle.common.specs.Pick.{pick}
use Rattle.ring.specs.Slots.{bench}
use Rattle.ring.specs.declared.Bench.{Bench}
use Rattle.decode.specs.Decode.{machine_at}
use Rattle.fields.specs.{Little.le, Patch.patched}
use Rattle.image.specs.Encode.{encode}
use Rattle.layout.specs.Layout as the
use Rattle.layout.specs.Layout.{num, image_size}
use Rattle.ranges.specs.Entry.{entry_ok}
use Rattle.state.specs.declared.Machine.{Machine}
use Rattle.wram.specs.Olds.{no_olds}
use Rattle.asbytes.specs.Places as at
use Rattle.asbytes.specs.Places.{beside, slot_at, count_at, length_at, sum_at}

-- the image that the first bytes are; zeros, which no image is, where there are too few
unfoldable pub head_of : List ℕ → List ℕ
head_of s = pick (leb image_size (length s)) (take image_size s) (replicate image_size 0)

-- the same bytes where they stand; none, where there are too few: a byte past the end reads 0, so both read the same
abbrev pub head_in : List ℕ → List ℕ
head_in s = pick (leb image_size (length s)) (take image_size s) []

-- a machine that breaks the ranges: bit cycles 0
abbrev pub broken : Machine → Machine
broken m =
    record {
      io = m.io;
      dma = m.dma;
      board = record { pad1 = m.board.pad1; pad2 = m.board.pad2; nmi = m.board.nmi; bitcycles = 0; clock = m.board.clock };
    }

-- the machine of an image; bytes that are no image, or carry old bytes, give one that every call refuses
unfoldable pub machine_of : List ℕ → Machine
machine_of e = pick (entry_ok e && eqb (num e the.old_count) 0) (machine_at e) (broken (machine_at e))

-- what the bytes stand for; a byte past the end reads 0
unfoldable pub bench_of : List ℕ → Bench
bench_of s = bench (machine_of (head_of s)) (slot_at s) (count_at s) (length_at s) (sum_at s)

-- the record's counts laid over the bytes
unfoldable pub counted : List ℕ → (slot kept length : ℕ) → List ℕ
counted s slot kept length =
    patched (patched (patched s (beside at.slot).start (le 8 slot)) (beside at.kept).start (le 8 kept)) (beside at.length).start (le 8 length)

-- and the sum
unfoldable pub summed : List ℕ → ℕ → List ℕ
summed s sum = patched s (beside at.sum).start (le 4 sum)

-- a machine laid over the bytes
unfoldable pub stored : Bench → List ℕ → List ℕ
stored b s = summed (counted (patched s 0 (encode b.machine no_olds)) b.slot b.kept b.length) b.sum

-- an accepted call leaves its machine, a refused one every byte as it was
unfoldable pub saved : ℕ → Bench → List ℕ → List ℕ
saved number b s = pick (eqb number 0) (stored b s) s
