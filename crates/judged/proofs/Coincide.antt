-- Any two outcomes that a public call's contract allows coincide: the answer, both banks and the record, for all inputs.
use Prim.Native.Nat.{ℕ}
use mathlib.Core.Bool.{Bool}
use mathlib.Core.List.{List}
use mathlib.Core.Path.{◌≡◌, refl, sym, ap, ◌∙◌, ◌∙⁻¹◌}
use denote.Ref.{Bor}
use lib.ListN.{length}
use Rattle.bench.specs.Calls.{desk, cycle_out, cycle_call, read_out, read_call, write_out, write_call, plain_out, pad_call, plug_call, answer_call, back_call, fresh_out, fresh_call}
use Rattle.bench.specs.Page.{page_call}
use Rattle.ring.specs.Refusal.{look_number}
use Rattle.bench.specs.declared.operate.{CycleAnswer.CycleAnswer, ReadAnswer.ReadAnswer}
use Rattle.ring.specs.declared.Bench.{Bench}
use Rattle.bench.specs.declared.{operate.WriteAnswer.WriteAnswer, fresh.RefusedFresh.RefusedFresh}
use Rattle.benchfile.specs.File.{file_check, section_number, section_of}
use Rattle.common.proofs.RefusalLaws.{refusal_of-number, refusal_number-apart, refusal_number-ne0}
use Rattle.common.specs.Refusal.{result_number, result_bytes}
use Rattle.common.specs.declared.refusal.Refusal.{Refusal}
use Rattle.std.specs.declared.result.Result.{Result}
use Rattle.std.specs.declared.result.Result.TheVariants.{Ok, Err}
use Rattle.judged.specs.Outcome.{Outcome, outcome, Coincide, of_cycle, of_read, of_write, of_plain, of_fresh, looked}

-- the one law: both sides taken apart
pub coincide : {A B : Type 0} (of : B → Outcome A) {x y c : B} → x ≡ c → y ≡ c → Coincide (of x) (of y)
coincide {A} of p q =
    let e = p ∙⁻¹ q in
    record {
      answer = λ i. (of (e i)).answer;
      low = λ i. (of (e i)).low;
      high = λ i. (of (e i)).high;
      entries = λ i. (of (e i)).entries;
    }

-- the outcome is the code's: no two refusals have one number
cycle-back : (b : Bench) (r : Result CycleAnswer Refusal) (l h e : List ℕ) → of_cycle (cycle_out b r l h e) ≡ outcome r l h e
cycle-back b (Ok x) l h e = refl
cycle-back b (Err x) l h e = rw (refusal_of-number x) refl

read-back : (b : Bench) (r : Result ReadAnswer Refusal) (l h e : List ℕ) → of_read (read_out b r l h e) ≡ outcome r l h e
read-back b (Ok x) l h e = refl
read-back b (Err x) l h e = rw (refusal_of-number x) refl

write-back : (b : Bench) (r : Result WriteAnswer Refusal) (l h e : List ℕ) → of_write (write_out b r l h e) ≡ outcome r l h e
write-back b (Ok x) l h e = refl
write-back b (Err x) l h e = rw (refusal_of-number x) refl

plain-back : (b : Bench) (r : Result Bench Refusal) (l h e : List ℕ) → of_plain (plain_out b r l h e) ≡ outcome r l h e
plain-back b (Ok x) l h e = refl
plain-back b (Err x) l h e = rw (refusal_of-number x) refl

fresh-back : (r : Result Bench RefusedFresh) → of_fresh (fresh_out r) ≡ r
fresh-back (Ok x) = refl
fresh-back (Err x) = rw (refusal_of-number x.refusal) refl

moved : {A : Type 0} {x x' y y' : Outcome A} → x ≡ x' → y ≡ y' → Coincide x y → Coincide x' y'
moved p q c =
    record {
      answer = sym (λ i. (p i).answer) ∙ c.answer ∙ (λ i. (q i).answer);
      low = sym (λ i. (p i).low) ∙ c.low ∙ (λ i. (q i).low);
      high = sym (λ i. (p i).high) ∙ c.high ∙ (λ i. (q i).high);
      entries = sym (λ i. (p i).entries) ∙ c.entries ∙ (λ i. (q i).entries);
    }

-- what each operation is lent, and what two outcomes of it left
module _ (rom : List ℕ) (b : Bench) (low high entries : List ℕ) {l h e l' h' e' : List ℕ} where
  pub cycle_coincides : (event : ℕ) (line timer : Bool) {r r' : Result CycleAnswer Refusal}
      → cycle_out b r l h e ≡ cycle_call rom (desk b low high entries) event line timer
      → cycle_out b r' l' h' e' ≡ cycle_call rom (desk b low high entries) event line timer
      → Coincide (outcome r l h e) (outcome r' l' h' e')
  cycle_coincides event line timer {r} {r'} p q = moved (cycle-back b r l h e) (cycle-back b r' l' h' e') (coincide of_cycle p q)

  pub read_coincides : (bank addr : ℕ) {r r' : Result ReadAnswer Refusal}
      → read_out b r l h e ≡ read_call rom (desk b low high entries) bank addr
      → read_out b r' l' h' e' ≡ read_call rom (desk b low high entries) bank addr
      → Coincide (outcome r l h e) (outcome r' l' h' e')
  read_coincides bank addr {r} {r'} p q = moved (read-back b r l h e) (read-back b r' l' h' e') (coincide of_read p q)

  pub write_coincides : (bank addr byte : ℕ) {r r' : Result WriteAnswer Refusal}
      → write_out b r l h e ≡ write_call rom (desk b low high entries) bank addr byte
      → write_out b r' l' h' e' ≡ write_call rom (desk b low high entries) bank addr byte
      → Coincide (outcome r l h e) (outcome r' l' h' e')
  write_coincides bank addr byte {r} {r'} p q = moved (write-back b r l h e) (write-back b r' l' h' e') (coincide of_write p q)

  pub pad_coincides : (port word : ℕ) {r r' : Result Bench Refusal}
      → plain_out b r l h e ≡ pad_call rom (desk b low high entries) port word
      → plain_out b r' l' h' e' ≡ pad_call rom (desk b low high entries) port word
      → Coincide (outcome r l h e) (outcome r' l' h' e')
  pad_coincides port word {r} {r'} p q = moved (plain-back b r l h e) (plain-back b r' l' h' e') (coincide of_plain p q)

  pub plug_coincides : (port : ℕ) (on : Bool) {r r' : Result Bench Refusal}
      → plain_out b r l h e ≡ plug_call rom (desk b low high entries) port on
      → plain_out b r' l' h' e' ≡ plug_call rom (desk b low high entries) port on
      → Coincide (outcome r l h e) (outcome r' l' h' e')
  plug_coincides port on {r} {r'} p q = moved (plain-back b r l h e) (plain-back b r' l' h' e') (coincide of_plain p q)

  pub answer_coincides : (addr byte : ℕ) {r r' : Result Bench Refusal}
      → plain_out b r l h e ≡ answer_call rom (desk b low high entries) addr byte
      → plain_out b r' l' h' e' ≡ answer_call rom (desk b low high entries) addr byte
      → Coincide (outcome r l h e) (outcome r' l' h' e')
  answer_coincides addr byte {r} {r'} p q = moved (plain-back b r l h e) (plain-back b r' l' h' e') (coincide of_plain p q)

pub back_coincides : (b : Bench) (low high entries : List ℕ) {l h e l' h' e' : List ℕ} {r r' : Result Bench Refusal}
    → plain_out b r l h e ≡ back_call (desk b low high entries)
    → plain_out b r' l' h' e' ≡ back_call (desk b low high entries)
    → Coincide (outcome r l h e) (outcome r' l' h' e')
back_coincides b low high entries {l} {h} {e} {l'} {h'} {e'} {r} {r'} p q = moved (plain-back b r l h e) (plain-back b r' l' h' e') (coincide of_plain p q)

-- what is lent nothing to write to leaves its answer alone: a struct, a number, or the bytes of a part
pub fresh_coincides : (low high : List ℕ) (room bitcycles : ℕ) {r r' : Result Bench RefusedFresh} → fresh_out r ≡ fresh_call low high room bitcycles → fresh_out r' ≡ fresh_call low high room bitcycles → r ≡ r'
fresh_coincides low high room bitcycles {r} {r'} p q = sym (fresh-back r) ∙ ap of_fresh (p ∙⁻¹ q) ∙ fresh-back r'

-- the same number and the same bytes are one answer
same : (r r' : Result (Bor (List ℕ)) Refusal) → result_number r ≡ result_number r' → result_bytes r ≡ result_bytes r' → looked r ≡ looked r'
same (Ok x) (Ok y) p q = ap Ok q
same (Ok x) (Err y) p q = absurd (refusal_number-ne0 y (sym p))
same (Err x) (Ok y) p q = absurd (refusal_number-ne0 x p)
same (Err x) (Err y) p q = ap Err (refusal_number-apart x y p)

module _ (low high : List ℕ) (page : ℕ) where
  pub page_coincides : (r r' : Result (Bor (List ℕ)) Refusal) → result_number r ≡ look_number (length low) (length high) page → result_bytes r ≡ page_call low high page
      → result_number r' ≡ look_number (length low) (length high) page → result_bytes r' ≡ page_call low high page → looked r ≡ looked r'
  page_coincides r r' p q p' q' = same r r' (p ∙⁻¹ p') (q ∙⁻¹ q')

  pub page_look_coincides : {r r' : List ℕ} → r ≡ page_call low high page → r' ≡ page_call low high page → r ≡ r'
  page_look_coincides p q = p ∙⁻¹ q

  pub page_number_coincides : {r r' : ℕ} → r ≡ look_number (length low) (length high) page → r' ≡ look_number (length low) (length high) page → r ≡ r'
  page_number_coincides p q = p ∙⁻¹ q

module _ (file : List ℕ) where
  pub file_check_coincides : {r r' : ℕ} → r ≡ file_check file → r' ≡ file_check file → r ≡ r'
  file_check_coincides p q = p ∙⁻¹ q

  pub section_number_coincides : (section : ℕ) {r r' : ℕ} → r ≡ section_number file section → r' ≡ section_number file section → r ≡ r'
  section_number_coincides section p q = p ∙⁻¹ q

  pub section_coincides : (section : ℕ) (r r' : Result (Bor (List ℕ)) Refusal) → result_number r ≡ section_number file section → result_bytes r ≡ section_of file section
      → result_number r' ≡ section_number file section → result_bytes r' ≡ section_of file section → looked r ≡ looked r'
  section_coincides section r r' p q p' q' = same r r' (p ∙⁻¹ p') (q ∙⁻¹ q')

  pub section_look_coincides : (section : ℕ) {r r' : List ℕ} → r ≡ section_of file section → r' ≡ section_of file section → r ≡ r'
  section_look_coincides section p q = p ∙⁻¹ q
