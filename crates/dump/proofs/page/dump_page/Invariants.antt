use Rattle.std.proofs.Common.{◌≡◌, ℕ, ◌*◌}
use Rattle.append.specs.Lent.{putting}
use Rattle.append.specs.Texts.{each}
use Rattle.fields.specs.Bytes.{part_of}
use Rattle.dump.specs.Page.{line_text}
use Rattle.dump.proofs.page.dump_page.Given as goal

abbrev pub invariant-loop-k : goal.invariant-loop-k
invariant-loop-k l = l.out ≡ putting l.fn.out (each (λ (i : ℕ). line_text l.page i (part_of l.s (i * 16) 16)) l.k 0)
