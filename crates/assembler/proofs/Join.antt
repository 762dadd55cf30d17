-- A whole text, gathered, and what is made of it.
use Prim.Native.Nat.{ℕ}
use mathlib.Core.List.{List}
use mathlib.Core.Bool.{Bool, true, false}
use mathlib.Core.Path.{◌≡◌, sym, ap, ◌∙◌}
use lib.ListN.{replicate}
use Rattle.append.specs.Sheet.{Sheet, sheet, shown_of}
use Rattle.reader.specs.declared.reader.Reader.{Reader}
use Rattle.reader.specs.Reader.{start_of}
use Rattle.assembler.specs.Desk.{State, made, stepped, runs, opened, gathered}
use Rattle.assembler.specs.Assemble.{ready_of, finished, said, left, assembled}

pub gathered-by : (file f o s text : List ℕ) {r : Reader} {a b : State} → r ≡ start_of → a ≡ runs file (made r (sheet f 0) (sheet o 0) (sheet s 0)) text
    → b ≡ stepped file a 10 → b ≡ gathered file (opened f o s) text
unfolding gathered
gathered-by file f o s text e p q =
    q
    ∙ ap (λ (x : State). stepped file x 10)
    (p ∙ ap (λ (x : Reader). runs file (made x (sheet f 0) (sheet o 0) (sheet s 0)) text) e)

module _ (out text file : List ℕ) (s : State) (e : s ≡ said file text) where
  pub assembled-ready : {a b c : List ℕ} {w : Sheet} {t : Bool} → t ≡ ready_of s.reader.draft → t ≡ true → a ≡ shown_of s.front
      → b ≡ shown_of s.rom → c ≡ shown_of s.script → w ≡ finished out a b c → w ≡ assembled out text file
  unfolding assembled
  assembled-ready {a} {b} {c} {w} p q x y z h =
      let there : w ≡ left out s = rw (sym p ∙ q) (h ∙ simp (x, y, z)) in
      there ∙ ap (left out) e

  pub assembled-not : {t : Bool} → t ≡ ready_of s.reader.draft → t ≡ false → sheet out 0 ≡ assembled out text file
  unfolding assembled
  assembled-not p q =
      let there : sheet out 0 ≡ left out s = rw (sym p ∙ q) in
      there ∙ ap (left out) e

-- fresh buffers
pub said-by : (file text : List ℕ) {s : State} → s ≡ gathered file (opened (replicate 4099 0) (replicate 65537 0) (replicate 65537 0)) text
    → s ≡ said file text
unfolding said
said-by file text e = e
