-- What a call (document 01, "Calls") leaves: its answer, and the bytes of what it was lent.
use Rattle.std.specs.Prelude.{ℕ, List, ◌≡◌}
use denote.Ref.{Bor}
use Rattle.bench.specs.Calls.{CycleOut, ReadOut, WriteOut, PlainOut, FreshOut}
use Rattle.bench.specs.declared.{operate.CycleAnswer.CycleAnswer, operate.ReadAnswer.ReadAnswer}
use Rattle.bench.specs.declared.{operate.WriteAnswer.WriteAnswer, fresh.RefusedFresh.RefusedFresh}
use Rattle.common.specs.Refusal.{refusal_of}
use Rattle.common.specs.declared.refusal.Refusal.{Refusal}
use Rattle.ring.specs.declared.Bench.{Bench}
use Rattle.std.specs.declared.option.Option.{Option}
use Rattle.std.specs.declared.option.Option.TheVariants.{None, Some}
use Rattle.std.specs.declared.result.Result.{Result}
use Rattle.std.specs.declared.result.Result.TheVariants.{Ok, Err}

-- an answer, both banks and the record
pub record Outcome (A : Type 0) : Type 0 where
  pub answer : A
  pub low : List ℕ
  pub high : List ℕ
  pub entries : List ℕ

abbrev pub outcome : {A : Type 0} → A → List ℕ → List ℕ → List ℕ → Outcome A
outcome r l h e = record { answer = r; low = l; high = h; entries = e }

-- one answer, the same bytes in both banks and in the record
pub record Coincide {A : Type 0} (x y : Outcome A) : Type 0 where
  pub answer : x.answer ≡ y.answer
  pub low : x.low ≡ y.low
  pub high : x.high ≡ y.high
  pub entries : x.entries ≡ y.entries

-- what is answered: the value, unless it was refused
abbrev pub unless : {A : Type 0} → Option Refusal → A → Result A Refusal
unless None x = Ok x
unless (Some r) x = Err r

-- the outcome that one side of a contract's equation stands for
abbrev pub of_cycle : CycleOut → Outcome (Result CycleAnswer Refusal)
of_cycle o =
    let d = o.desk in
    outcome (unless (refusal_of o.number) (record { bench = d.bench; held = o.held; edge = o.edge; log = o.log })) d.ram.low d.ram.high d.entries

abbrev pub of_read : ReadOut → Outcome (Result ReadAnswer Refusal)
of_read o =
    let d = o.desk in
    outcome (unless (refusal_of o.number) (record { bench = d.bench; byte = o.byte; cost = o.cost })) d.ram.low d.ram.high d.entries

abbrev pub of_write : WriteOut → Outcome (Result WriteAnswer Refusal)
of_write o =
    let d = o.desk in outcome (unless (refusal_of o.number) (record { bench = d.bench; cost = o.cost })) d.ram.low d.ram.high d.entries

abbrev pub of_plain : PlainOut → Outcome (Result Bench Refusal)
of_plain o = let d = o.desk in outcome (unless (refusal_of o.number) d.bench) d.ram.low d.ram.high d.entries

-- fresh gives a bench either way
abbrev pub unless_fresh : Option Refusal → Bench → Result Bench RefusedFresh
unless_fresh None b = Ok b
unless_fresh (Some r) b = Err (record { refusal = r; bench = b })

abbrev pub of_fresh : FreshOut → Result Bench RefusedFresh
of_fresh o = unless_fresh (refusal_of o.number) o.bench

-- what a look gives, by its bytes
abbrev pub looked : Result (Bor (List ℕ)) Refusal → Result (List ℕ) Refusal
looked (Ok s) = Ok s.now
looked (Err r) = Err r
