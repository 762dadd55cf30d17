-- Lent banks stay the same two slices, whatever is written to them.
use Rattle.std.proofs.Common.{◌≡◌, ap, sym, ◌∙◌}
use Rattle.wram.specs.Banks.{Banks}
use Rattle.wram.specs.Lent.{seen, holding}
use Rattle.wram.specs.declared.Ram.{Ram}

-- the same slices as before
abbrev pub Same : Ram → Ram → Type 0
Same r s = s ≡ holding r (seen s)

pub then : (r : Ram) {s t : Ram} (b : Banks) → Same r s → t ≡ holding s b → Same r t
then r b p q = q ∙ ap (λ (x : Ram). holding x b) p ∙ ap (holding r) (sym (ap seen q))

pub ended : (r : Ram) {s : Ram} (b : Banks) → Same r s → seen s ≡ b → s ≡ holding r b
ended r b p q = p ∙ ap (holding r) q
