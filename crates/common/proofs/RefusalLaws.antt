-- Different refusals have different numbers, none of them 0: the number says which one it was.
use mathlib.Core.Path.{◌≡◌, refl, ap, ◌∙◌, sym}
use mathlib.Core.Logic.{◌≢◌}
use Rattle.std.specs.declared.option.Option.TheVariants.{None, Some}
use Rattle.common.specs.Refusal.{refusal_number, refusal_of}
use Rattle.common.specs.declared.refusal.Refusal.{Refusal}
use Rattle.common.specs.declared.refusal.Refusal.TheVariants.{Banks, Record, Rom, Machine, Event, Port, ClockEnd, NothingKept, Entry, BitCycles, BenchFile, Page, Total, Files}

pub refusal_of-number : (r : Refusal) → refusal_of (refusal_number r) ≡ Some r
refusal_of-number Banks = refl
refusal_of-number Record = refl
refusal_of-number Rom = refl
refusal_of-number Machine = refl
refusal_of-number Event = refl
refusal_of-number Port = refl
refusal_of-number ClockEnd = refl
refusal_of-number NothingKept = refl
refusal_of-number Entry = refl
refusal_of-number BitCycles = refl
refusal_of-number BenchFile = refl
refusal_of-number Page = refl
refusal_of-number Total = refl
refusal_of-number Files = refl

pub refusal_number-apart : (r s : Refusal) → refusal_number r ≡ refusal_number s → r ≡ s
refusal_number-apart r s p =
    let q : Some r ≡ Some s = sym (refusal_of-number r) ∙ ap refusal_of p ∙ refusal_of-number s in cc

pub refusal_number-ne0 : (r : Refusal) → refusal_number r ≢ 0
refusal_number-ne0 r p =
    let q : Some r ≡ None = sym (refusal_of-number r) ∙ ap refusal_of p in cc
