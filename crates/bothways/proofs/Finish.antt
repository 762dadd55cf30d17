-- A text that says three bodies is bound to a file and checked.
use Prim.Native.Nat.{ℕ, ◌≤◌}
use mathlib.Core.Bool.{true, false}
use mathlib.Core.List.{List}
use mathlib.Core.Path.{◌≡◌, refl, ap, ◌∙◌}
use lib.ListN.{length, replicate}
use Rattle.append.specs.Sheet.{Sheet, sheet, puts}
use Rattle.reader.specs.{Letter.sign_of, Line.line_of}
use Rattle.reader.specs.Reader.{shut_of, step_of, read_of}
use Rattle.assembler.specs.Desk.{State, front_of, rom_of, script_of, stepped, made}
use Rattle.assembler.specs.Assemble.{ready_of, finished, left}
use Rattle.bothways.proofs.Rows.{Open, fill, rom, rows, before}
use Rattle.bothways.proofs.{Lines.Scripted, Bound.kept}
use Rattle.reader.specs.declared.kinds.{Phase.Phase, Kind.Kind, Emit.Emit}
use Rattle.reader.specs.declared.kinds.Emit.TheVariants as emits
use Rattle.reader.specs.Draft.{failed_by}

-- the line feed behind the text adds nothing
module _ (file : List ℕ) (p : Phase) (k : Kind) (x₁ x₂ x₃ x₄ : ℕ) (e : Emit) (ok : failed_by e ≡ false) (f o s : Sheet) where
  last : stepped file (made (before p k x₁ x₂ x₃ x₄ e) f o s) 10 ≡ made (before p k x₁ x₂ x₃ x₄ emits.Nothing) f o s
  unfolding stepped read_of step_of sign_of shut_of line_of front_of rom_of script_of puts
  last = rw ok

-- where rows may come there are settings and a fill
ready : (k : Kind) (x₁ x₂ x₃ x₄ : ℕ) (p : Phase) → Open p → ready_of (before p k x₁ x₂ x₃ x₄ emits.Nothing).draft ≡ true
unfolding ready_of
ready k x₁ x₂ x₃ x₄ p fill = refl
ready k x₁ x₂ x₃ x₄ p rom = refl
ready k x₁ x₂ x₃ x₄ p rows = refl

-- a text that says three bodies, in buffers with room, is bound and checked
module _ (out file a b c : List ℕ) (n m q : ℕ) (la : length a ≤ n) (lb : length b ≤ m) (lc : length c ≤ q) where
  pub bodies : (k : State) → Scripted file (puts (sheet (replicate n 0) 0) a) (puts (sheet (replicate m 0) 0) b) (sheet (replicate q 0) 0) c k
      → left out (stepped file k 10) ≡ finished out a b c
  bodies k r =
      let p = r.0 in
      let i = r.1.1 in
      let front : Sheet = puts (sheet (replicate n 0) 0) a in
      let image : Sheet = puts (sheet (replicate m 0) 0) b in
      let script : Sheet = puts (sheet (replicate q 0) 0) c in
      let e = ap (λ (x : State). left out (stepped file x 10)) i.is
      ∙ ap (left out) (last file p i.kind i.b1 i.b2 i.b3 i.b4 i.emit i.fine front image script) in
      e
      ∙ rw (ready i.kind i.b1 i.b2 i.b3 i.b4 p r.1.0)
      (rw (kept n a la, kept m b lb, kept q c lc) refl)
