-- Both columns of a bench file: what `count_file` counts of one that can be run are the figures of its script's history.
use Prim.Native.Nat.{ℕ, zero, suc, ◌/◌, ◌%◌, ◌≤◌, ◌<◌}
use mathlib.Core.Bool.{Bool, true, false}
use mathlib.Core.List.{List, [], ◌∷◌, ◌++◌}
use mathlib.Core.Logic.{◌≢◌}
use mathlib.Core.Path.{◌≡◌, refl, sym, ap, subst, ◌∙◌}
use native.Mathlib.Omega.{arith}
use borrow.Author.Tests.{ne_eqb}
use lib.Dec.{eqb}
use lib.ListN.{length, get_or, replicate}
use Rattle.common.proofs.{AllLaws.byte_fits, TableLaws.pick_elim}
use Rattle.common.specs.{Pick.pick, Width.Byte, Width.Bytes}
use Rattle.bench.specs.Calls.{Desk, fresh_call}
use Rattle.benchfile.proofs.{Apart.body-length, Facts.Facts, Facts.facts}
use Rattle.benchfile.proofs.{Rows.script as rows-formed, Scripts.row_lawful}
use Rattle.benchfile.specs.Row.{row_at, lawful}
use Rattle.benchfile.specs.File.{start_of, size_of, body_of, sound, file_check}
use Rattle.fields.proofs.Parts.{part_bytes}
use Rattle.fields.specs.Little.{field}
use Rattle.rewind.proofs.{Demand.demand3, Fresh.fresh-number}
use Rattle.rewind.specs.Promise.{Lent, fresh_desk}
use Rattle.ring.proofs.Also.{neither}
use Rattle.ring.specs.Refusal.{also_of, fresh_number}
use Rattle.rewind.specs.Run.{Call}
use Rattle.start.proofs.Repeat.{repeated-length}
use Rattle.start.specs.Fill.{repeated, filled}
use Rattle.start.specs.Start.{Starting, filled_by, made_for, refusal_of, start_run}
use Rattle.tally.specs.File.{first, ended, FileRun, file_ran, file_run, file_count}
use Rattle.tally.specs.Run.{script_tallied}
use Rattle.tallied.specs.History.{calls_of, all_of, alive_of}
use Rattle.tallied.proofs.{Columns.all-counted, Columns.survivors-counted, Columns.all-low, Columns.survivors-low, Flat.Under, Sized.run_led}

-- a fill of bytes fills with bytes
repeated-bytes : (fill : List ℕ) → Bytes fill → (n : ℕ) → Bytes (repeated fill n)
unfolding repeated
repeated-bytes fill b zero = tt
repeated-bytes fill b (suc n) = last (repeated fill n) (get_or fill (n % length fill) 0) (repeated-bytes fill b n) (byte_fits fill (n % length fill) b)
  where
    last : (l : List ℕ) (x : ℕ) → Bytes l → Byte x → Bytes (l ++ x ∷ [])
    last [] x p q = (q, tt)
    last (y ∷ l) x p q = (p.0, last l x p.1 q)

check_sound : (b : Bool) → ◌≡◌ {A = ℕ} (pick b 0 11) 0 → b ≡ true
check_sound true e = refl
check_sound false e = absurd (omega arith)

module _ (f : List ℕ) where
  -- its ROM, its script, and a bank with its fill
  abbrev pub rom_of : List ℕ
  rom_of = body_of f 2

  abbrev pub script_of : List ℕ
  script_of = body_of f 3

  abbrev pub bank_of : List ℕ
  bank_of = repeated (body_of f 1) 65536

  abbrev pub bits_of : ℕ
  bits_of = field 2 (body_of f 0) 0

  -- the desk that it starts on, with a record
  abbrev pub desk_of : List ℕ → Desk
  desk_of e = fresh_desk 65536 bits_of bank_of bank_of e

  -- all calls of its script
  abbrev pub calls_in : List Call
  calls_in = calls_of script_of [] (length script_of / 8)

-- a file of bytes that can be run
module _ (f : List ℕ) (bytes : Bytes f) (checked : file_check f ≡ 0) (fresh : (fresh_call (bank_of f) (bank_of f) 65536 (bits_of f)).number ≡ 0) where
  formed : Facts f
  formed = facts f (check_sound (sound f) checked)

  fills : (b : List ℕ) → length b ≡ 65536 → filled_by f b ≡ bank_of f
  unfolding filled
  fills b n =
      let t = formed in
      let some = body-length f 1 (omega (arith, t.third, t.fourth, t.last)) in
      let fill : eqb (length (body_of f 1)) 0 ≡ false = ne_eqb (length (body_of f 1)) 0 (λ z. omega (arith, some, t.least)) in
      rw (fill, n)

  lent : (e : List ℕ) → length e ≡ 65536 → Lent (rom_of f) (bank_of f) (bank_of f) e 65536
  unfolding body_of
  lent e n =
      let t = formed in
      let some = body-length f 2 (omega (arith, t.fourth, t.last)) in
      record {
        rom-bytes = part_bytes f (start_of f 2) (size_of f 2) bytes;
        rom-most = omega (arith, some, t.short, t.fourth, t.last);
        low-bytes = repeated-bytes (body_of f 1) (part_bytes f (start_of f 1) (size_of f 1) bytes) 65536;
        high-bytes = repeated-bytes (body_of f 1) (part_bytes f (start_of f 1) (size_of f 1) bytes) 65536;
        entries-length = n;
      }

  few : length (script_of f) / 8 ≤ 8192
  few = let t = formed in let some = body-length f 3 (omega (arith, t.last)) in omega (arith, some, t.short, t.last)

  -- a run of the file is one of its script, on banks that are filled anew
  run_is : (l h e limits alive totals : List ℕ) → length l ≡ 65536 → length h ≡ 65536
      → file_run f l h e limits alive totals ≡ ended (script_tallied (rom_of f) (script_of f) limits (first (desk_of f e) alive totals))
  unfolding file_run start_run refusal_of made_for body_of
  run_is l h e limits alive totals p q = rw (fills l p, fills h q, checked, fresh)

  module _ (l h e : List ℕ) (low : length l ≡ 65536) (high : length h ≡ 65536) (long : length e ≡ 65536) (k : ℕ) (room : 8192 ≤ k) where
    -- its first run
    abbrev pub first_run : FileRun
    first_run = file_run f l h e [] (replicate k 0) (replicate 29 0)

    script-bytes : Bytes (script_of f)
    unfolding body_of
    script-bytes = part_bytes f (start_of f 3) (size_of f 3) bytes

    -- counts all accepted operations of its script
    pub file-counted : first_run.totals ≡ all_of (rom_of f) (desk_of f e) (calls_in f)
    file-counted =
        ap (λ (r : FileRun). r.totals) (run_is l h e [] (replicate k 0) (replicate 29 0) low high)
        ∙ all-counted (rom_of f) (bank_of f) (bank_of f) e 65536 (bits_of f) (lent e long) fresh (script_of f) script-bytes formed.rows few k (omega (arith, few))

    -- and the second, on whatever banks and record hold by then, the survivors
    pub file_survivors_counted : (l' h' e' again : List ℕ) → length l' ≡ 65536 → length h' ≡ 65536 → length e' ≡ 65536
        → (file_run f l' h' e' first_run.alive again (replicate 29 0)).totals ≡ alive_of (rom_of f) (desk_of f e) (calls_in f)
    file_survivors_counted l' h' e' again p q n =
        let a = run_is l h e [] (replicate k 0) (replicate 29 0) low high in
        ap (λ (r : FileRun). r.totals)
        (ap (λ (r : FileRun). file_run f l' h' e' r.alive again (replicate 29 0)) a ∙ run_is l' h' e' _ again (replicate 29 0) p q)
        ∙ survivors-counted (rom_of f) (bank_of f) (bank_of f) e 65536 (bits_of f) (lent e long) fresh (script_of f) script-bytes formed.rows few k (omega (arith, few))
        e' again (n ∙ sym long)

    -- what the first run leaves in place of banks and record is as long as they were
    first-sizes : (length first_run.low ≡ 65536) × (length first_run.high ≡ 65536) × (length first_run.entries ≡ 65536)
    first-sizes =
        let n = length (script_of f) / 8 in
        let start = first (desk_of f e) (replicate k 0) (replicate 29 0) in
        let good : (r : ℕ) → r < n → lawful (row_at (script_of f) r) ≡ true = λ r h. row_lawful (script_of f) script-bytes r ((rows-formed (script_of f) formed.rows).1 r h) in
        let (cs, (typed, led)) = run_led (rom_of f) (script_of f) [] (desk_of f e) n good script-bytes start refl in
        let S = (demand3 (rom_of f) (bank_of f) (bank_of f) e 65536 (bits_of f) (lent e long) fresh cs typed).sizes in
        let a = run_is l h e [] (replicate k 0) (replicate 29 0) low high in (
          ap (λ (r : FileRun). length r.low) a ∙ sym (ap (λ (d : Desk). length d.ram.low) led) ∙ S.0,
          ap (λ (r : FileRun). length r.high) a ∙ sym (ap (λ (d : Desk). length d.ram.high) led) ∙ S.1,
          ap (λ (r : FileRun). length r.entries) a ∙ sym (ap (λ (d : Desk). length d.entries) led) ∙ S.2 ∙ long,
        )

    -- what `count_file` counts: both columns
    pub both-counted : let c = file_count f l h e (replicate k 0) (replicate 29 0) (replicate 29 0) in
        (c.all ≡ all_of (rom_of f) (desk_of f e) (calls_in f)) × (c.kept ≡ alive_of (rom_of f) (desk_of f e) (calls_in f))
    unfolding file_count
    both-counted =
        let s = first-sizes in (file-counted, file_survivors_counted first_run.low first_run.high first_run.entries (0 ∷ []) s.0 s.1 s.2)

    -- no figure comes near 2^64 - 1
    pub both-low : let c = file_count f l h e (replicate k 0) (replicate 29 0) (replicate 29 0) in Under 29527900160 c.all × Under 29527900160 c.kept
    unfolding file_count
    both-low =
        let a = run_is l h e [] (replicate k 0) (replicate 29 0) low high in
        let s = first-sizes in
        let b = run_is first_run.low first_run.high first_run.entries first_run.alive (0 ∷ []) (replicate 29 0) s.0 s.1 in (
          subst (λ (r : FileRun). Under 29527900160 r.totals) (sym a)
              (all-low (rom_of f) (bank_of f) (bank_of f) e 65536 (bits_of f) (lent e long) fresh (script_of f) script-bytes formed.rows few k (omega (arith, few))),
          subst (λ (r : FileRun). Under 29527900160 r.totals) (sym b)
              (subst (λ (r : FileRun). Under 29527900160 (script_tallied (rom_of f) (script_of f) r.alive (first (desk_of f first_run.entries) (0 ∷ []) (replicate 29 0))).totals) (sym a)
              (survivors-low (rom_of f) (bank_of f) (bank_of f) e 65536 (bits_of f) (lent e long) fresh (script_of f) script-bytes formed.rows few k (omega (arith, few))
              (desk_of f first_run.entries) (0 ∷ []))),
        )

-- ---- a file that cannot be run

filled-length : (b fill : List ℕ) → length (filled b fill) ≡ length b
unfolding filled
filled-length b fill = pick_elim (λ (l : List ℕ). length l ≡ length b) (eqb (length fill) 0) refl (repeated-length fill (length b))

module _ (f l h : List ℕ) where
  -- it is refused as before when its banks have been filled
  refused-again : refusal_of f (filled_by f l) (filled_by f h) ≡ refusal_of f l h
  unfolding refusal_of made_for
  refused-again =
      let b = bits_of f in
      let number : (x y : List ℕ) → length x ≡ length l → length y ≡ length h → (fresh_call x y 65536 b).number ≡ fresh_number (length l) (length h) 65536 b =
      λ x y p q. fresh-number x y 65536 b ∙ (λ i. fresh_number (p i) (q i) 65536 b) in
      let L = filled-length l (body_of f 1) in
      let H = filled-length h (body_of f 1) in
      ap (also_of (file_check f))
      (number (filled_by f (filled_by f l)) (filled_by f (filled_by f h)) (filled-length (filled_by f l) (body_of f 1) ∙ L) (filled-length (filled_by f h) (body_of f 1) ∙ H)
      ∙ sym (number (filled_by f l) (filled_by f h) L H))

  start_halts : refusal_of f l h ≢ 0 → (start_run f l h).start.number ≡ refusal_of f l h
  unfolding start_run
  start_halts z = rw (ne_eqb (refusal_of f l h) 0 z) (pick_elim (λ (s : Starting). s.start.number ≡ refusal_of f l h) (eqb (file_check f) 0) refl refl)

  start-banks : refusal_of f (start_run f l h).low (start_run f l h).high ≡ refusal_of f l h
  unfolding start_run
  start-banks = pick_elim (λ (s : Starting). refusal_of f s.low s.high ≡ refusal_of f l h) (eqb (file_check f) 0) refused-again refl

  run_halts : (e limits alive totals : List ℕ) → refusal_of f l h ≢ 0
      → file_run f l h e limits alive totals ≡ file_ran (record { number = refusal_of f l h; row = 0 }) (start_run f l h).low (start_run f l h).high e alive totals
  unfolding file_run
  run_halts e limits alive totals z = rw (start_halts z, ne_eqb (refusal_of f l h) 0 z)

-- a file refused whole has its number, no row, and the figures that were lent, which are zeros
pub whole-refused : (f l h e alive all kept : List ℕ) → refusal_of f l h ≢ 0 → let c = file_count f l h e alive all kept in
    (c.number ≡ refusal_of f l h) × (c.row ≡ 0) × (c.all ≡ all) × (c.kept ≡ kept)
unfolding file_count
whole-refused f l h e alive all kept z =
    let r = run_halts f l h e [] alive all z in
    let s = start_run f l h in
    let again = run_halts f s.low s.high e alive (0 ∷ []) kept (λ q. z (sym (start-banks f l h) ∙ q)) in (
      ap (λ (x : FileRun). x.number) r,
      ap (λ (x : FileRun). x.row) r,
      ap (λ (x : FileRun). x.totals) r,
      ap (λ (x : FileRun). (file_run f x.low x.high x.entries x.alive (0 ∷ []) kept).totals) r ∙ ap (λ (x : FileRun). x.totals) again,
    )

-- ---- a file that is not refused can be run

pub can_run : (f l h : List ℕ) → length l ≡ 65536 → length h ≡ 65536 → refusal_of f l h ≡ 0
    → (file_check f ≡ 0) × ((fresh_call (bank_of f) (bank_of f) 65536 (bits_of f)).number ≡ 0)
unfolding refusal_of made_for
can_run f l h p q z =
    let n = neither (file_check f) (fresh_call (filled_by f l) (filled_by f h) 65536 (bits_of f)).number z in
    let bank = repeated-length (body_of f 1) 65536 in
    let a : length (bank_of f) ≡ length (filled_by f l) = bank ∙ sym (filled-length l (body_of f 1) ∙ p) in
    let b : length (bank_of f) ≡ length (filled_by f h) = bank ∙ sym (filled-length h (body_of f 1) ∙ q) in (
      n.0,
      fresh-number (bank_of f) (bank_of f) 65536 (bits_of f) ∙ (λ i. fresh_number (a i) (b i) 65536 (bits_of f))
          ∙ sym (fresh-number (filled_by f l) (filled_by f h) 65536 (bits_of f)) ∙ n.1,
    )
