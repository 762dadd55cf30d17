-- An entry and a line of a channel: how many accesses they log, and so which units and table bytes are counted.
use Prim.Native.Nat.{ℕ, ◌+◌, ◌-◌, ◌*◌, ◌%◌, ◌≤◌}
use mathlib.Core.Bool.{Bool, true, false}
use mathlib.Core.List.{List}
use mathlib.Core.Path.{◌≡◌, refl}
use native.Mathlib.Omega.{arith}
use lib.Dec.{eqb}
use lib.ListN.{length}
use lib.Seq.{length-take-le}
use Rattle.common.proofs.TableLaws.{pick_elim}
use Rattle.common.specs.Pick.{pick}
use Rattle.bus.specs.Access.{Log}
use Rattle.bus.specs.View.{channel_of, with_channel}
use Rattle.hdma.specs.{Engine.DmaWorld, Engine.hdma_at, Line.line_from, Line.line_channel}
use Rattle.hdma.specs.Entry.{Reloaded, indirect_at, reloaded, rewound, init_channel}
use Rattle.transfer.proofs.BitLaws.{unit_len-le}
use Rattle.transfer.specs.{Bits.flag_of, Pattern.unit_len, Table.table_read}
use Rattle.tally.specs.Figure.{writes, reads}
use Rattle.tallied.specs.Tied.{first_bytes, reload_bytes, line_bytes, line_units}
use Rattle.tallied.proofs.Count.{listed, Has, same, table_has, das_has, unit_has}

-- of both pairs holds of the pair picked; of both outcomes holds of the outcome
pick-both : {A B : Type 0} (P : A → B → Type 0) (b : Bool) {x y : A} {p q : B} → P x p → P y q → P (pick b x y) (pick b p q)
pick-both P true s t = s
pick-both P false s t = t

either : (P : Bool → Type 0) (b : Bool) → P true → P false → P b
either P true s t = s
either P false s t = t

-- 1 for any number but 0
abbrev pub some : ℕ → ℕ
some n = pick (eqb n 0) 0 1

-- what a pass counts of a log: u units, t table bytes
pub record Counts (u t : ℕ) (log : Log) : Type 0 where
  pub units : some (writes (listed log)) ≡ u
  pub table : reads (listed log) - writes (listed log) ≡ t

-- n bytes moved besides t reads
counts : {u t n : ℕ} {log : Log} → Has (t + n * 2) n log → t ≤ 3 → n ≤ 4 → some n ≡ u → Counts u t log
counts {log = log} h r s p =
    let all : length (listed log) ≡ log.count = length-take-le log.count log.items (omega (arith, h.counted, h.size)) in
    record { units = rw h.wrote p; table = omega (arith, all, h.counted, h.wrote) }

-- only a table was read
abbrev Entry : ℕ → Log → Type 0
Entry t log = Has t 0 log × (t ≤ 3)

entry-counts : {t : ℕ} {log : Log} → Entry t log → Counts 0 t log
entry-counts (h, r) = counts (same h (omega arith) refl) r (omega arith) refl

-- a unit has a byte
unit_len_pos : (d : ℕ) → some (unit_len d) ≡ 1
unfolding unit_len
unit_len_pos d =
    let P : ℕ → Type 0 = λ (n : ℕ). some n ≡ 1 in
    pick_elim P (eqb (d % 8) 0) refl
    (pick_elim P (eqb (d % 8) 1) refl (pick_elim P (eqb (d % 8) 2) refl (pick_elim P (eqb (d % 8) 6) refl refl)))

module _ (rom : List ℕ) (m : DmaWorld) (ch : ℕ) (e : Has 0 0 m.world.core.log) where
  pub first-counts : Counts 0 (first_bytes rom m ch) (init_channel rom m ch).world.core.log
  unfolding init_channel with_channel
  first-counts =
      let P : ℕ → DmaWorld → Type 0 = λ (t : ℕ) (r : DmaWorld). Entry t r.world.core.log in
      let r = table_read rom (rewound m.world ch) ch in
      let x : Has 1 0 r.world.core.log = table_has rom (rewound m.world ch) ch e (omega arith) in
      let one : Entry 1 r.world.core.log = (x, omega arith) in
      entry-counts (pick-both P (eqb r.byte 0) one (pick-both P (indirect_at m ch) (das_has rom r.world ch x (omega arith), omega arith) one))

  reload_has : Entry (reload_bytes rom m ch) (reloaded rom m ch (indirect_at m ch)).after.world.core.log
  unfolding reloaded
  reload_has =
      let P : ℕ → Reloaded → Type 0 = λ (t : ℕ) (r : Reloaded). Entry t r.after.world.core.log in
      let r = table_read rom m.world ch in
      let x : Has 1 0 r.world.core.log = table_has rom m.world ch e (omega arith) in
      let one : Entry 1 r.world.core.log = (x, omega arith) in
      pick-both P (flag_of (hdma_at m.dma ch).counter 0x7F) (e, omega arith)
      (pick-both P (eqb r.byte 0) one (pick-both P (indirect_at m ch) (das_has rom r.world ch x (omega arith), omega arith) one))

module _ (rom : List ℕ) (m : DmaWorld) (ch : ℕ) (e : Has 0 0 m.world.core.log) where
  pub line-counts : Counts (line_units rom m ch) (line_bytes rom m ch) (line_channel rom m ch).world.core.log
  unfolding line_channel
  line-counts =
      let ind = indirect_at m ch in
      let l = reloaded rom m ch ind in
      let t = reload_bytes rom m ch in
      let u : ℕ = pick l.stop 0 (pick (hdma_at l.after.dma ch).transfer 1 0) in
      let dmap = (channel_of l.after.world.core ch).dmap in
      let P : ℕ → DmaWorld → Type 0 = λ (n : ℕ) (r : DmaWorld). Counts n t r.world.core.log in
      let x = reload_has rom m ch e in
      let none = entry-counts x in
      either (λ (b : Bool). Counts (pick b 0 u) (pick b 0 t) (pick b m (line_from rom l ch ind)).world.core.log) (hdma_at m.dma ch).finished
      (entry-counts (e, omega arith))
      (pick-both P l.stop none (pick-both P (hdma_at l.after.dma ch).transfer
      (counts (unit_has rom l.after.world ch ind x.0 x.1) x.1 (unit_len-le dmap) (unit_len_pos dmap)) none))
