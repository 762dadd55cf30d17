use Rattle.std.proofs.Common.{◌≡◌, drop}
use Rattle.reader.specs.{Reader.start_of, Reader.name_at, Reader.until_from, Word.in_name}
use Rattle.reader.proofs.text.name_at.Given as goal

abbrev pub invariant-loop-i : goal.invariant-loop-i
invariant-loop-i l = name_at start_of l.text ≡ until_from (λ r c. in_name r.word) l.i l.r (drop l.i l.text)
