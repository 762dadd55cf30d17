-- A true sum stays true: whatever row is run on a desk whose sum is that of its banks, refused or not, leaves such a desk.
use Rattle.std.proofs.Common.{◌≡◌, ℕ, zero, suc, Bool, eqb, List, length, ap, ◌∙◌}
use Rattle.bench.specs.Calls.{Desk, lent_of, CycleOut, cycle_call, ReadOut, read_call, WriteOut, write_call, PlainOut, Hosting, hosted, on_banks, pad_call, plug_call, answer_call, back_call}
use Rattle.benchfile.specs.declared.row.Row.{Row}
use Rattle.benchfile.specs.declared.row.Row.TheVariants.{Cycles, Read, Write, Pad, Plug, Answer, Back, Broken}
use Rattle.common.proofs.TableLaws.{pick_elim}
use Rattle.entry.specs.Entry.{decode_at}
use Rattle.layout.specs.Layout.{capacity}
use Rattle.ring.specs.Refusal.{cycle_number, back_number}
use Rattle.ring.specs.Slots.{before, noted}
use Rattle.script.specs.Row.{row_run}
use Rattle.script.specs.Run.{Running, cycle_step, cycles_run, back_step, backs_run, first_of, first_flag}
use Rattle.state.specs.declared.Machine.{Machine}
use Rattle.wram.proofs.SumLaws.{follow-true}
use Rattle.wram.specs.{Banks.Banks, Sum.ram_sum, Sum.follows}

-- the sum beside the machine is that of the banks
abbrev pub True : Desk → Type 0
True d = d.bench.sum ≡ ram_sum d.ram

module _ (d : Desk) (t : True d) where
  follow : (ram : Banks) → follows d.bench.sum d.ram ram ≡ ram_sum ram
  follow ram = ap (λ (n : ℕ). follows n d.ram ram) t ∙ follow-true d.ram ram

  cycle-true : (rom : List ℕ) (event : ℕ) (line timer : Bool) → True (cycle_call rom d event line timer).desk
  unfolding cycle_call noted
  cycle-true rom event line timer = pick_elim (λ (o : CycleOut). True o.desk) (eqb (cycle_number (lent_of d (length rom)) d.bench event) 0) (follow _) t

  read-true : (rom : List ℕ) (bank addr : ℕ) → True (read_call rom d bank addr).desk
  unfolding read_call noted
  read-true rom bank addr = pick_elim (λ (o : ReadOut). True o.desk) (eqb (lent_of d (length rom)) 0) (follow _) t

  write-true : (rom : List ℕ) (bank addr byte : ℕ) → True (write_call rom d bank addr byte).desk
  unfolding write_call noted
  write-true rom bank addr byte = pick_elim (λ (o : WriteOut). True o.desk) (eqb (lent_of d (length rom)) 0) (follow _) t

  host-true : (number : ℕ) (next : Machine) → True (on_banks d.ram (hosted d.bench d.entries number next)).desk
  unfolding hosted noted
  host-true number next = pick_elim (λ (o : Hosting). True (on_banks d.ram o).desk) (eqb number 0) t t

  back-true : True (back_call d).desk
  unfolding back_call
  back-true =
      let e = decode_at d.entries (before (capacity d.bench.length) d.bench.slot) in
      pick_elim (λ (o : PlainOut). True o.desk) (eqb (back_number (lent_of d 0) d.bench.kept e.ok) 0) (follow _) t

module _ (d : Desk) (t : True d) where
  cycles-true : (rom : List ℕ) (event : ℕ) (line timer : Bool) (n : ℕ) → True (cycles_run rom event line timer n d).desk
  unfolding cycles_run cycle_step
  cycles-true rom event line timer zero = t
  cycles-true rom event line timer (suc i) =
      let s = cycles_run rom event line timer i d in
      let h = cycles-true rom event line timer i in
      pick_elim (λ (x : Running). True x.desk) (eqb s.number 0) (cycle-true s.desk h rom (first_of i event) (first_flag i line) (first_flag i timer)) h

  backs_true : (n : ℕ) → True (backs_run n d).desk
  unfolding backs_run back_step
  backs_true zero = t
  backs_true (suc i) =
      let s = backs_run i d in
      let h = backs_true i in
      pick_elim (λ (x : Running). True x.desk) (eqb s.number 0) (back-true s.desk h) h

  pub row-true : (rom : List ℕ) (row : Row) → True (row_run rom row d).desk
  unfolding row_run pad_call plug_call answer_call
  row-true rom (Cycles count event due timer) = cycles-true rom event due timer count
  row-true rom (Read bank addr) = read-true d t rom bank addr
  row-true rom (Write bank addr byte) = write-true d t rom bank addr byte
  row-true rom (Pad port word) = host-true d t _ _
  row-true rom (Plug port on) = host-true d t _ _
  row-true rom (Answer addr byte) = host-true d t _ _
  row-true rom (Back count) = backs_true count
  row-true rom Broken = t
