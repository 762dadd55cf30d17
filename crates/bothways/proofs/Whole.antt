-- Assemble of list is the file.
use Prim.Native.Nat.{ℕ, ◌≤◌}
use mathlib.Core.List.{List, [], ◌++◌}
use mathlib.Core.Path.{◌≡◌, refl, ap, subst, ◌∙◌}
use native.Mathlib.Omega.{arith}
use lib.ListN.{length, replicate, length-append}
use Rattle.append.specs.Sheet.{Sheet, sheet, puts, shown_of}
use Rattle.append.proofs.Laws.{then, puts-room}
use Rattle.append.specs.Texts.{codes}
use Rattle.common.proofs.AllLaws.{byte_fits}
use Rattle.common.specs.Width.{Bytes}
use Rattle.fields.specs.Little.{field}
use Rattle.benchfile.specs.File.{file_check}
use Rattle.benchfile.proofs.Built.{length-build}
use Rattle.reader.specs.Reader.{start_of, name_at}
use Rattle.lister.specs.List.{list_text}
use Rattle.assembler.specs.Desk.{State, stepped, runs, opened, gathered}
use Rattle.assembler.specs.Assemble.{said, left, assembled}
use Rattle.bothways.proofs.{Lines.Scripted, Says.says, Says.nameless, Bound.there, Bound.finished-file, Finish.bodies}
use Rattle.bothways.proofs.Room.{settings-short, lines-short, script-short}
use Rattle.bothways.proofs.Sections as of
use Rattle.std.specs.Prelude.{None}

module _ (f : List ℕ) (small : Bytes f) (sound : file_check f ≡ 0) where
  abbrev settings : List ℕ
  settings = of.settings f small sound

  abbrev ram : List ℕ
  ram = of.ram f small sound

  abbrev image : List ℕ
  image = of.image f small sound

  abbrev script : List ℕ
  script = of.script f small sound

  -- the text of a file has room in 327,680 bytes
  pub text-short : length (list_text f) ≤ 327680
  unfolding list_text
  text-short =
      let l = length-build settings ram image script in
      let h = of.bytes f small sound 0 in
      let h₀ = byte_fits settings 0 h in
      let h₁ = byte_fits settings 1 h in
      let a = settings-short (field 2 settings 0) (omega arith) in
      let b = lines-short (codes "fill") (omega arith) ram in
      let c = lines-short (codes "rom") (omega arith) image in
      let d = script-short script (of.bytes f small sound 3) in
      simp length-append (omega (arith, l, of.short f small sound, of.two f small sound, a, b, c, d))

  -- and has no file name in it
  pub no_name : name_at start_of (list_text f) ≡ None
  unfolding list_text
  no_name =
      nameless [] settings ram image script (of.bytes f small sound 0) (of.bytes f small sound 1) (of.bytes f small sound 2) (of.bytes f small sound 3)
      (of.two f small sound) (of.least f small sound) (of.formed f small sound)
      (sheet [] 0) (sheet [] 0) (sheet [] 0)

  module _ (out file : List ℕ) (room : length f ≤ length out) where
    -- in buffers that have room for a fill, a ROM and a script
    module _ (n m q : ℕ) (ln : 4098 ≤ n) (lm : 65536 ≤ m) (lq : 65536 ≤ q) where
      abbrev all : State
      all = runs file (opened (replicate n 0) (replicate m 0) (replicate q 0)) (list_text f)

      gets : Scripted file (puts (sheet (replicate n 0) 0) (settings ++ ram)) (puts (sheet (replicate m 0) 0) image) (sheet (replicate q 0) 0) script all
      unfolding list_text
      gets =
          subst (λ (x : Sheet). Scripted file x (puts (sheet (replicate m 0) 0) image) (sheet (replicate q 0) 0) script all)
          (then (sheet (replicate n 0) 0) settings ram refl refl)
          (says file settings ram image script (of.bytes f small sound 0) (of.bytes f small sound 1) (of.bytes f small sound 2) (of.bytes f small sound 3)
          (of.two f small sound) (of.least f small sound) (of.formed f small sound)
          (sheet (replicate n 0) 0) (sheet (replicate m 0) 0) (sheet (replicate q 0) 0))

      whole_in : left out (stepped file all 10) ≡ puts (sheet out 0) f
      whole_in =
          let l = length-build settings ram image script in
          let a : length (settings ++ ram) ≤ n = rw length-append (omega (arith, of.two f small sound, of.most f small sound)) in
          bodies out file (settings ++ ram) image script n m q a (omega (arith, l, of.short f small sound)) (omega (arith, l, of.short f small sound)) all gets
          ∙ finished-file out f sound room (settings ++ ram) image script (of.is_bound f small sound)

    -- assembling what list writes of a sound file puts the file into out, whatever ROM file is lent
    pub whole : assembled out (list_text f) file ≡ puts (sheet out 0) f
    unfolding assembled said gathered
    whole = whole_in 4099 65537 65537 (omega arith) (omega arith) (omega arith)

    -- so what is shown is the file
    pub whole-shown : shown_of (assembled out (list_text f) file) ≡ f
    whole-shown = ap shown_of whole ∙ there out f sound room

  -- list and then assemble, in buffers as the programs lend them: what is shown in the end is the file
  pub there_and_back : (paper out file : List ℕ) → 327680 ≤ length paper → 65536 ≤ length out
      → shown_of (assembled out (shown_of (puts (sheet paper 0) (list_text f))) file) ≡ f
  there_and_back paper out file lp lo =
      let written : shown_of (puts (sheet paper 0) (list_text f)) ≡ list_text f = (puts-room (list_text f) paper 0 (omega (arith, text-short))).0 in
      ap (λ (t : List ℕ). shown_of (assembled out t file)) written ∙ whole-shown out file (omega (arith, (of.apart f small sound).short))
