-- How many accesses a log holds and how many of them are writes: what each piece of the DMA unit's work adds.
use Prim.Native.Nat.{ℕ, zero, suc, ◌+◌, ◌*◌, ◌%◌, ◌^◌, ◌≤◌, ◌<◌}
use mathlib.Core.Bool.{Bool}
use mathlib.Core.List.{List}
use mathlib.Core.Path.{◌≡◌, refl, ap, ◌∙◌}
use native.Mathlib.Omega.{arith}
use borrow.Author.Tests.{lt-ltb}
use lib.ListN.{length, length-set, take}
use lib.Seq.{take-suc-set}
use mir.Val.{bool_byte}
use Rattle.common.proofs.TableLaws.{pick_elim}
use Rattle.bus.specs.Access.{Log, push_access}
use Rattle.bus.specs.View.{channel_of, with_channel}
use Rattle.bus.specs.World.{World, read_at, write_at}
use Rattle.bus.specs.declared.{access.Access.Access, access.Core.Core}
use Rattle.registers.specs.declared.channel.DmaChannel.{DmaChannel}
use Rattle.transfer.proofs.BitLaws.{unit_len-le}
use Rattle.transfer.specs.Byte.{moved, step_a1t, trip_at, transfer_byte}
use Rattle.transfer.specs.{Pattern.unit_len, Table.table_read, Table.das_loaded}
use Rattle.transfer.specs.Unit.{unit_byte, unit_bytes, source_of, source_stored, unit_sent}
use Rattle.transfer.specs.declared.byte.Trip.{Trip}
use Rattle.tally.proofs.Writes.{writes-last}
use Rattle.tally.specs.Figure.{writes}

-- the accesses of a log, in order
abbrev pub listed : Log → List Access
listed log = take log.count log.items

-- a log of 11 places holds k accesses, n of them writes
pub record Has (k n : ℕ) (log : Log) : Type 0 where
  pub counted : log.count ≡ k
  pub size : length log.items ≡ 11
  pub wrote : writes (listed log) ≡ n

-- the same numbers, written in another way
pub same : {k n i j : ℕ} {log : Log} → Has k n log → k ≡ i → n ≡ j → Has i j log
same h p q = record { counted = h.counted ∙ p; size = h.size; wrote = h.wrote ∙ q }

-- one access more, while there is room
push_has : {k n : ℕ} (log : Log) (a : Access) → Has k n log → k < 11 → Has (k + 1) (n + bool_byte a.write) (push_access log a)
unfolding push_access
push_has {k} {n} log a h r =
    let less : log.count < 11 = omega (arith, h.counted) in
    let inside : log.count < length log.items = omega (arith, h.counted, h.size) in
    let step : (log.count + 1) % 2 ^ 8 ≡ suc log.count = omega arith in
    rw (lt-ltb log.count 11 less, step) (record {
      counted = omega (arith, h.counted);
      size = length-set log.items log.count a ∙ h.size;
      wrote = ap writes (take-suc-set log.items log.count a inside) ∙ writes-last (listed log) a ∙ ap (λ (x : ℕ). x + bool_byte a.write) h.wrote;
    })

module _ (rom : List ℕ) where
  read_has : {k n : ℕ} (w : World) (b a : ℕ) → Has k n w.core.log → k < 11 → Has (k + 1) n (read_at rom w b a).world.core.log
  unfolding read_at
  read_has w b a h r = same (push_has w.core.log _ h r) refl (omega arith)

  moved_has : {k n : ℕ} (w : World) (t : Trip) → Has k n w.core.log → k < 10 → Has (k + 2) (n + 1) (moved rom w t).core.log
  unfolding moved write_at
  moved_has w t h r = same (push_has _ _ (read_has w t.source.bank t.source.addr h (omega arith)) (omega arith)) (omega arith) refl

  pub table_has : {k n : ℕ} (w : World) (ch : ℕ) → Has k n w.core.log → k < 11 → Has (k + 1) n (table_read rom w ch).world.core.log
  unfolding table_read with_channel
  table_has w ch h r = read_has _ _ _ h r

  pub das_has : {k n : ℕ} (w : World) (ch : ℕ) → Has k n w.core.log → k < 10 → Has (k + 2) n (das_loaded rom w ch).core.log
  unfolding das_loaded with_channel
  das_has w ch h r = same (table_has (table_read rom w ch).world ch (table_has w ch h (omega arith)) (omega arith)) (omega arith) refl

  -- a byte of a general transfer
  pub byte_has : (w : World) (ch u : ℕ) → Has 0 0 w.core.log → Has 2 1 (transfer_byte rom w ch u).core.log
  unfolding transfer_byte step_a1t with_channel
  byte_has w ch u h = moved_has w (trip_at w ch u) h (omega arith)

  bytes_have : {k : ℕ} (c : DmaChannel) (bank addr i : ℕ) (w : World) → Has k 0 w.core.log → k + i * 2 ≤ 11
      → Has (k + i * 2) i (unit_bytes rom c bank addr i w).core.log
  unfolding unit_bytes unit_byte
  bytes_have c bank addr zero w h r = same h (omega arith) refl
  bytes_have c bank addr (suc i) w h r =
      same (moved_has (unit_bytes rom c bank addr i w) _ (bytes_have c bank addr i w h (omega arith)) (omega arith)) (omega arith) (omega arith)

  -- a unit
  pub unit_has : {k : ℕ} (w : World) (ch : ℕ) (ind : Bool) → Has k 0 w.core.log → k ≤ 3
      → Has (k + unit_len (channel_of w.core ch).dmap * 2) (unit_len (channel_of w.core ch).dmap) (unit_sent rom w ch ind).world.core.log
  unfolding unit_sent source_stored with_channel
  unit_has {k} w ch ind h r =
      let c = channel_of w.core ch in
      let s = source_of c ind in
      let n = unit_len c.dmap in
      let x = bytes_have c s.bank s.addr n w h (omega (arith, unit_len-le c.dmap)) in
      pick_elim (λ (core : Core). Has (k + n * 2) n core.log) ind x x
