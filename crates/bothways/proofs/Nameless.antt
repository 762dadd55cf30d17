-- No line that list writes has a file name.
use Prim.Native.Nat.{ℕ, zero, suc, ◌+◌, ◌*◌, ◌/◌, ◌%◌, ◌<◌}
use mathlib.Core.Bool.{Bool, true, false}
use mathlib.Core.List.{List, [], ◌∷◌, ◌++◌, flat_map}
use mathlib.Core.Path.{◌≡◌, refl, sym, ap, subst, ◌∙◌}
use native.Mathlib.Omega.{arith}
use lib.ListN.{length}
use Rattle.append.specs.{Texts.codes, Texts.each, Sheet.Sheet, Sheet.puts, Number.glyph_of}
use Rattle.fields.specs.Bytes.{byte_at, part_of}
use Rattle.common.specs.Width.{Bytes}
use Rattle.benchfile.specs.{Row.formed_row, Row.row_bytes, File.script_formed}
use Rattle.fields.proofs.Parts.{part_bytes}
use Rattle.benchfile.proofs.Rows.{script}
use Rattle.reader.specs.declared.reader.Reader.{Reader}
use Rattle.reader.specs.Reader.{start_of, read_of, reads}
use Rattle.lister.specs.Body.{bytes_text, line_text, lines_from, lines_text}
use Rattle.lister.specs.Row.{row_text}
use Rattle.lister.specs.List.{settings_text, rows_text, script_text}
use Rattle.assembler.specs.Desk.{State, runs}
use Rattle.bothways.proofs.{Quietly.quietly, Quietly.not-loud, Quietly.quietly-reads, Row.row-quiet, Settings.settings-back}
use Rattle.bothways.proofs.Rows.{Open, rows, before}
use Rattle.bothways.proofs.Between.{Rest, line_reads, row_line}
use Rattle.bothways.proofs.Body.{Section, word_of, byte_read, spaced_read, dollar_read, space, dollar, digits}
use Rattle.bothways.proofs.Lines.{phase_of, opening, head, letters, lettered, parted, Holds, line, Scripted}
use Rattle.bothways.proofs.Unnamed.{Unnamed, unnamed_none, unnamed_next, unnamed_append, unnamed_runs, quietly_unnamed, line_unnamed}
use Rattle.reader.specs.declared.kinds.Phase.{Phase}
use Rattle.reader.specs.declared.kinds.Phase.TheVariants as phases
use Rattle.reader.specs.declared.kinds.Kind.TheVariants as kinds
use Rattle.reader.specs.declared.kinds.Emit.TheVariants as emits
use Rattle.bothways.proofs.RowKind.{kind_at}

pub settings-nameless : (n : ℕ) → n < 65536 → Unnamed start_of (settings_text n)
settings-nameless n h = quietly_unnamed (not-loud (before phases.Settings kinds.Bitcycles (n % 256) (n / 256) 0 0 emits.Settings) refl) start_of (settings_text n) (settings-back n h)

-- the bytes behind x
bytes-nameless : (b : Section) (i : Bool) (x y : ℕ) (l : List ℕ) → Bytes (x ∷ l) → Unnamed (byte_read b i x y) (bytes_text l ++ codes "\n")
unfolding flat_map
bytes-nameless b i x y [] h = unnamed_next (byte_read b i x y) 10 [] refl (unnamed_none (read_of (byte_read b i x y) 10))
bytes-nameless b i x y (z ∷ l) h =
    let t : List ℕ = bytes_text l ++ codes "\n" in
    let two : List ℕ = glyph_of (z / 16) ∷ glyph_of z ∷ [] in
    let d = digits b x z h.1.0 in
    let after : reads (dollar_read b x) two ≡ byte_read b false z x = quietly-reads (not-loud (byte_read b false z x) refl) (dollar_read b x) two d in
    let rest : Unnamed (reads (dollar_read b x) two) t =
    subst (λ (r : Reader). Unnamed r t) (sym after) (bytes-nameless b false z x l h.1) in
    let number : Unnamed (dollar_read b x) (two ++ t) =
    unnamed_append (dollar_read b x) two t (quietly_unnamed (not-loud (byte_read b false z x) refl) (dollar_read b x) two d) rest in
    let sign : Unnamed (spaced_read b x) (36 ∷ (two ++ t)) =
    unnamed_next (spaced_read b x) 36 (two ++ t) refl (subst (λ (r : Reader). Unnamed r (two ++ t)) (sym (dollar b x)) number) in
    unnamed_next (byte_read b i x y) 32 (36 ∷ (two ++ t)) refl
    (subst (λ (r : Reader). Unnamed r (36 ∷ (two ++ t))) (sym (space x y h.0 b i)) sign)

module _ (file : List ℕ) (b : Section) (f o s : Sheet) where
  -- a line of bytes
  line-nameless : (a p : List ℕ) (k : State) → Holds file b f o s a k → Bytes p → Unnamed k.reader (line_text (word_of b) p)
  unfolding line_text flat_map
  line-nameless a [] k r small = unnamed_none k.reader
  line-nameless a (z ∷ l) k r small =
      let t : List ℕ = bytes_text l ++ codes "\n" in
      let u : List ℕ = letters b ++ (codes " $" ++ glyph_of (z / 16) ∷ glyph_of z ∷ []) in
      let q : Reader = byte_read b true z 0 in
      let was : Reader = before (phase_of b a) r.kind r.b1 r.b2 r.b3 r.b4 r.emit in
      let e : quietly (before (phase_of b a) r.kind r.b1 r.b2 r.b3 r.b4 emits.Nothing) (head b ∷ u) ≡ byte_read b true z 0 =
      ap (quietly (before (phase_of b a) r.kind r.b1 r.b2 r.b3 r.b4 emits.Nothing))
      (sym (lettered b (codes " $" ++ glyph_of (z / 16) ∷ glyph_of z ∷ [])))
      ∙ opening r.kind r.b1 r.b2 r.b3 r.b4 z small.0 b a in
      let first : Unnamed was (head b ∷ u) =
      line_unnamed (not-loud q refl) (phase_of b a) r.kind r.b1 r.b2 r.b3 r.b4 r.emit r.fine (head b ∷ u) e in
      let after : reads was (head b ∷ u) ≡ byte_read b true z 0 =
      line_reads (phase_of b a) r.kind r.b1 r.b2 r.b3 r.b4 r.emit r.fine (not-loud q refl) (head b) u e in
      let rest : Unnamed (reads was (head b ∷ u)) t = subst (λ (x : Reader). Unnamed x t) (sym after) (bytes-nameless b true z 0 l small) in
      let whole : Unnamed was ((head b ∷ u) ++ t) = unnamed_append was (head b ∷ u) t first rest in
      let there : Unnamed was (word_of b ++ (codes " $" ++ glyph_of (z / 16) ∷ glyph_of z ∷ t)) =
      subst (λ (x : List ℕ). Unnamed was x) (sym (parted b z t)) whole in
      subst (λ (x : State). Unnamed x.reader (word_of b ++ (codes " $" ++ glyph_of (z / 16) ∷ glyph_of z ∷ t))) (sym r.is) there

  module _ (l : List ℕ) (small : Bytes l) where
    from-nameless : (n i : ℕ) (a : List ℕ) (k : State) → Holds file b f o s a k → Unnamed k.reader (lines_from (word_of b) l n i)
    unfolding each
    from-nameless zero i a k r = unnamed_none k.reader
    from-nameless (suc n) i a k r =
        let p : List ℕ = part_of l (i * 16) 16 in
        let bytes = part_bytes l (i * 16) 16 small in
        unnamed_runs file k (line_text (word_of b) p) (lines_from (word_of b) l n (i + 1)) (line-nameless a p k r bytes)
        (from-nameless n (i + 1) (a ++ p) (runs file k (line_text (word_of b) p)) (line file b f o s a p k r bytes))

    -- the lines of a fill or a ROM
    pub lines-nameless : (k : State) → Holds file b f o s [] k → Unnamed k.reader (lines_text (word_of b) l)
    unfolding lines_text
    lines-nameless k r = from-nameless (length l / 16 + 1) 0 [] k r

module _ (file : List ℕ) (f o : Sheet) (l : List ℕ) (small : Bytes l) where
  row-nameless : (s : Sheet) (b : List ℕ) → Bytes b → formed_row b ≡ true → (p : Phase) → Open p → (k : State) → Rest p f o s k → Unnamed k.reader (row_text b)
  row-nameless s b bytes h p may k r =
      let there : Unnamed (before p r.kind r.b1 r.b2 r.b3 r.b4 r.emit) (row_text b) =
      line_unnamed (not-loud (before phases.Rows (kind_at (byte_at b 0)) (byte_at b 1) (byte_at b 2) (byte_at b 3) (byte_at b 4) emits.Row) refl) p r.kind r.b1 r.b2 r.b3 r.b4 r.emit r.fine (row_text b)
      (row-quiet r.kind r.b1 r.b2 r.b3 r.b4 p may b bytes h) in
      subst (λ (x : State). Unnamed x.reader (row_text b)) (sym r.is) there

  rows-nameless : (n i : ℕ) → ((j : ℕ) → j < i + n → formed_row (row_bytes l j) ≡ true) → (s : Sheet) (p : Phase) → Open p → (k : State) → Rest p f o s k
      → Unnamed k.reader (rows_text l n i)
  unfolding each
  rows-nameless zero i h s p may k r = unnamed_none k.reader
  rows-nameless (suc n) i h s p may k r =
      let b : List ℕ = row_bytes l i in
      let bytes = part_bytes l (i * 8) 8 small in
      let formed = h i (omega arith) in
      unnamed_runs file k (row_text b) (rows_text l n (i + 1)) (row-nameless s b bytes formed p may k r)
      (rows-nameless n (i + 1) (λ j m. h j (omega arith)) (puts s b) phases.Rows rows (runs file k (row_text b)) (row_line file f o s b bytes formed p may k r))

  -- the rows of a script
  pub script-nameless : script_formed l ≡ true → (s : Sheet) (k : State) → Scripted file f o s [] k → Unnamed k.reader (script_text l)
  unfolding script_text
  script-nameless h s k r =
      let w = script l h in
      rows-nameless (length l / 8) 0 (λ j u. w.1 j (omega arith)) (puts s []) r.0 r.1.0 k r.1.1
