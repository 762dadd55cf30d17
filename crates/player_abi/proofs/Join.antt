-- The steps of an exported call, joined: the machine is read from its bytes, the call made, the machine written.
use Prim.Native.Nat.{ℕ}
use mathlib.Core.Bool.{Bool, false}
use mathlib.Core.List.{List, [], ◌∷◌}
use mathlib.Core.Path.{◌≡◌, refl, ap, ◌∙◌}
use lib.ListN.{length}
use Rattle.asbytes.specs.Crossed.{Crossed, crossed, cycle_crossed}
use Rattle.asbytes.specs.Answer.{answered}
use Rattle.asbytes.specs.Machine.{bench_of, stored, saved}
use Rattle.asbytes.proofs.Join.{put-by}
use Rattle.bench.specs.Calls.{desk, CycleOut, cycle_out, cycle_call, ReadOut, read_out, read_call, WriteOut, write_out, write_call, PlainOut, plain_out, pad_call, plug_call, answer_call, back_call, FreshOut, fresh_call}
use Rattle.bench.specs.Page.{page_call}
use Rattle.ring.specs.Refusal.{look_number}
use Rattle.bench.specs.declared.operate.{CycleAnswer.CycleAnswer, ReadAnswer.ReadAnswer, WriteAnswer.WriteAnswer}
use Rattle.ring.specs.declared.Bench.{Bench}
use Rattle.fields.specs.Patch.{patched}
use Rattle.common.specs.Refusal.{refusal_number}
use Rattle.common.specs.declared.refusal.Refusal.{Refusal}
use Rattle.bus.specs.Access.{no_log}
use Rattle.ring.proofs.Also.{refuses}
use Rattle.std.specs.declared.result.Result.{Result}
use Rattle.std.specs.declared.result.Result.TheVariants.{Ok, Err}
use Rattle.player_abi.specs.Calls.{Left, left_by, left, read_crossed, write_crossed, plain_crossed, fresh_crossed}

-- a call on what the bytes stand for
pub crossing-by : {O : Type 0} {b : Bench} {o : O} {x : Crossed} (s : List ℕ) (call : Bench → O) (f : O → Crossed)
    → b ≡ bench_of s → o ≡ call b → x ≡ f o → x ≡ f (call (bench_of s))
crossing-by s call f p q r = r ∙ ap f (q ∙ ap call p)

-- machine and answer bytes, each by its writer
pub joined_by : {m m' o o' : List ℕ} (n : ℕ) (l h e : List ℕ) → m ≡ m' → o ≡ o' → crossed n m l h e o ≡ crossed n m' l h e o'
joined_by n l h e p q = λ i. crossed n (p i) l h e (q i)

-- ---- what a call answers, in bytes

module _ (s l h e : List ℕ) (b : Bench) where
  pub plain-left : (r : Result Bench Refusal) {n : ℕ} {m : List ℕ} → left_by n m ≡ left r s → crossed n m l h e [] ≡ plain_crossed s (plain_out b r l h e)
  unfolding saved
  plain-left (Ok a) p = ap (λ (x : Left). crossed x.number x.machine l h e []) p
  plain-left (Err r) p = rw (refuses r) (ap (λ (x : Left). crossed x.number x.machine l h e []) p)

  module _ {m o : List ℕ} (out : List ℕ) where
    pub cycle-ok : (r : CycleAnswer) → m ≡ stored r.bench s → o ≡ answered r.held r.edge r.log out → crossed 0 m l h e o ≡ cycle_crossed s out (cycle_out b (Ok r) l h e)
    unfolding saved
    cycle-ok r p q = joined_by 0 l h e p q

    pub read-ok : (r : ReadAnswer) → m ≡ stored r.bench s → o ≡ patched out 0 (r.byte ∷ r.cost ∷ []) → crossed 0 m l h e o ≡ read_crossed s out (read_out b (Ok r) l h e)
    unfolding saved
    read-ok r p q = joined_by 0 l h e p q

    pub write-ok : (r : WriteAnswer) → m ≡ stored r.bench s → o ≡ patched out 0 (r.cost ∷ []) → crossed 0 m l h e o ≡ write_crossed s out (write_out b (Ok r) l h e)
    unfolding saved
    write-ok r p q = joined_by 0 l h e p q

  module _ {n : ℕ} {o : List ℕ} (out : List ℕ) (r : Refusal) (p : n ≡ refusal_number r) where
    pub cycle-err : o ≡ answered false false no_log out → crossed n s l h e o ≡ cycle_crossed s out (cycle_out b (Err r) l h e)
    unfolding saved
    cycle-err q = rw (refuses r, p, q) refl

    pub read-err : o ≡ patched out 0 (0 ∷ 0 ∷ []) → crossed n s l h e o ≡ read_crossed s out (read_out b (Err r) l h e)
    unfolding saved
    read-err q = rw (refuses r, p, q) refl

    pub write-err : o ≡ patched out 0 (0 ∷ []) → crossed n s l h e o ≡ write_crossed s out (write_out b (Err r) l h e)
    unfolding saved
    write-err q = rw (refuses r, p, q) refl

-- ---- calls

module _ (rom s l h e : List ℕ) {b : Bench} {x : Crossed} (p : b ≡ bench_of s) where
  pub cycle-by : (event : ℕ) (line timer : Bool) (out : List ℕ) {o : CycleOut} → o ≡ cycle_call rom (desk b l h e) event line timer
      → x ≡ cycle_crossed s out o → x ≡ cycle_crossed s out (cycle_call rom (desk (bench_of s) l h e) event line timer)
  cycle-by event line timer out q r = crossing-by s (λ (d : Bench). cycle_call rom (desk d l h e) event line timer) (cycle_crossed s out) p q r

  pub read_by : (bank addr : ℕ) (out : List ℕ) {o : ReadOut} → o ≡ read_call rom (desk b l h e) bank addr
      → x ≡ read_crossed s out o → x ≡ read_crossed s out (read_call rom (desk (bench_of s) l h e) bank addr)
  read_by bank addr out q r = crossing-by s (λ (d : Bench). read_call rom (desk d l h e) bank addr) (read_crossed s out) p q r

  pub write-by : (bank addr v : ℕ) (out : List ℕ) {o : WriteOut} → o ≡ write_call rom (desk b l h e) bank addr v
      → x ≡ write_crossed s out o → x ≡ write_crossed s out (write_call rom (desk (bench_of s) l h e) bank addr v)
  write-by bank addr v out q r = crossing-by s (λ (d : Bench). write_call rom (desk d l h e) bank addr v) (write_crossed s out) p q r

  pub pad-by : (port w : ℕ) {o : PlainOut} → o ≡ pad_call rom (desk b l h e) port w
      → x ≡ plain_crossed s o → x ≡ plain_crossed s (pad_call rom (desk (bench_of s) l h e) port w)
  pad-by port w q r = crossing-by s (λ (d : Bench). pad_call rom (desk d l h e) port w) (plain_crossed s) p q r

  pub plug-by : (port : ℕ) (on : Bool) {o : PlainOut} → o ≡ plug_call rom (desk b l h e) port on
      → x ≡ plain_crossed s o → x ≡ plain_crossed s (plug_call rom (desk (bench_of s) l h e) port on)
  plug-by port on q r = crossing-by s (λ (d : Bench). plug_call rom (desk d l h e) port on) (plain_crossed s) p q r

  pub answer-by : (addr v : ℕ) {o : PlainOut} → o ≡ answer_call rom (desk b l h e) addr v
      → x ≡ plain_crossed s o → x ≡ plain_crossed s (answer_call rom (desk (bench_of s) l h e) addr v)
  answer-by addr v q r = crossing-by s (λ (d : Bench). answer_call rom (desk d l h e) addr v) (plain_crossed s) p q r

pub back_by : (s l h e : List ℕ) {b : Bench} {x : Crossed} {o : PlainOut} → b ≡ bench_of s → o ≡ back_call (desk b l h e)
    → x ≡ plain_crossed s o → x ≡ plain_crossed s (back_call (desk (bench_of s) l h e))
back_by s l h e p q r = crossing-by s (λ (d : Bench). back_call (desk d l h e)) (plain_crossed s) p q r

pub fresh-by : {m : List ℕ} {a : FreshOut} (s l h : List ℕ) (n cycles : ℕ) → a ≡ fresh_call l h n cycles → m ≡ stored a.bench s
    → crossed a.number m [] [] [] [] ≡ fresh_crossed s (fresh_call l h n cycles)
fresh-by {a = a} s l h n cycles p q = joined_by a.number [] [] [] q refl ∙ ap (fresh_crossed s) p

pub page_by : {n : ℕ} {bytes out' : List ℕ} (l h out : List ℕ) (page : ℕ) → bytes ≡ page_call l h page → out' ≡ patched out 0 bytes
    → n ≡ look_number (length l) (length h) page
    → crossed n [] [] [] [] out' ≡ crossed (look_number (length l) (length h) page) [] [] [] [] (patched out 0 (page_call l h page))
page_by l h out page p q r = λ i. crossed (r i) [] [] [] [] ((put-by out 0 q p) i)
