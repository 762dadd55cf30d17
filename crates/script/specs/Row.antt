-- What the trace program prints of a row (document 01): refusal or 0, then A and B by the row's kind.
use Rattle.std.specs.Prelude.{ℕ, List, Some}
use Rattle.bench.specs.Calls.{Desk, ReadOut, read_call, WriteOut, write_call, PlainOut, pad_call, plug_call, answer_call}
use Rattle.benchfile.specs.declared.row.Row.{Row}
use Rattle.benchfile.specs.declared.row.Row.TheVariants.{Cycles, Read, Write, Pad, Plug, Answer, Back, Broken}
use Rattle.common.specs.declared.refusal.Refusal.{Refusal}
use Rattle.script.specs.declared.repeat.Ran.{Ran}
use Rattle.script.specs.Run.{Running, cycles_run, backs_run}

-- a row that its call refuses
abbrev pub refused : Refusal → Ran
refused x = record { refusal = Some x; a = 0; b = 0 }

-- byte and cost
abbrev pub read_ran : ReadOut → Running
read_ran o = record { number = o.number; a = o.byte; b = o.cost; desk = o.desk }

-- 0 and cost
abbrev pub write_ran : WriteOut → Running
write_ran o = record { number = o.number; a = 0; b = o.cost; desk = o.desk }

-- 0 0 for kinds 4 to 6
abbrev pub plain_ran : PlainOut → Running
plain_ran o = record { number = o.number; a = 0; b = 0; desk = o.desk }

-- accepted and held for cycles, accepted and 0 for back
unfoldable pub row_run : List ℕ → Row → Desk → Running
row_run rom (Cycles count event due timer) d = cycles_run rom event due timer count d
row_run rom (Read bank addr) d = read_ran (read_call rom d bank addr)
row_run rom (Write bank addr byte) d = write_ran (write_call rom d bank addr byte)
row_run rom (Pad port word) d = plain_ran (pad_call rom d port word)
row_run rom (Plug port on) d = plain_ran (plug_call rom d port on)
row_run rom (Answer addr byte) d = plain_ran (answer_call rom d addr byte)
row_run rom (Back count) d = backs_run count d
row_run rom Broken d = record { number = 11; a = 0; b = 0; desk = d }
