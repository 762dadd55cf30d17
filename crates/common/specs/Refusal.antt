-- The table of refusals (document 01; 13 and 14 are document 02's): the number of each, and 0 where nothing refuses.
use Rattle.std.specs.Prelude.{ℕ, List, [], ◌∷◌}
use denote.Ref.{Bor}
use Rattle.common.specs.Table.{at, find}
use Rattle.std.specs.declared.option.Option.{Option}
use Rattle.std.specs.declared.option.Option.TheVariants.{None, Some}
use Rattle.std.specs.declared.result.Result.{Result}
use Rattle.std.specs.declared.result.Result.TheVariants.{Ok, Err}
use Rattle.common.specs.declared.refusal.Refusal.{Refusal}
use Rattle.common.specs.declared.refusal.Refusal.TheVariants.{Banks, Record, Rom, Machine, Event, Port, ClockEnd, NothingKept, Entry, BitCycles, BenchFile, Page, Total, Files}

abbrev pub refusal_number : Refusal → ℕ
refusal_number Banks = 1
refusal_number Record = 2
refusal_number Rom = 3
refusal_number Machine = 4
refusal_number Event = 5
refusal_number Port = 6
refusal_number ClockEnd = 7
refusal_number NothingKept = 8
refusal_number Entry = 9
refusal_number BitCycles = 10
refusal_number BenchFile = 11
refusal_number Page = 12
refusal_number Total = 13
refusal_number Files = 14

-- the number of what may refuse
abbrev pub number_of : Option Refusal → ℕ
number_of None = 0
number_of (Some r) = refusal_number r

-- the number of an answer
abbrev pub result_number : {T : Type 0} → Result T Refusal → ℕ
result_number (Ok x) = 0
result_number (Err e) = refusal_number e

-- the bytes of a part that was asked for; a refusal has none
abbrev pub result_bytes : Result (Bor (List ℕ)) Refusal → List ℕ
result_bytes (Ok s) = s.now
result_bytes (Err e) = []

-- the refusal of a number
abbrev pub refusal_of : ℕ → Option Refusal
refusal_of n =
    find
    (at 1 (Some Banks)
    ∷ at 2 (Some Record)
    ∷ at 3 (Some Rom)
    ∷ at 4 (Some Machine)
    ∷ at 5 (Some Event)
    ∷ at 6 (Some Port)
    ∷ at 7 (Some ClockEnd)
    ∷ at 8 (Some NothingKept)
    ∷ at 9 (Some Entry)
    ∷ at 10 (Some BitCycles)
    ∷ at 11 (Some BenchFile)
    ∷ at 12 (Some Page)
    ∷ at 13 (Some Total)
    ∷ at 14 (Some Files)
    ∷ []) n None
