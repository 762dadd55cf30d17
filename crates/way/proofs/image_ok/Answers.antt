use Rattle.std.proofs.Common.{◌≡◌, ℕ, List, length, refl, sym, ap, ◌∙◌}
use borrow.Author.Tests.{lt-leb}
use Rattle.asbytes.proofs.Head.{head-take}
use Rattle.asbytes.specs.Machine.{head_of}
use Rattle.layout.specs.Layout.{image_size}
use Rattle.ranges.specs.Entry.{entry_tests, entry_ok}
use Rattle.way.proofs.image_ok.Goals as goal

pub returns-in-Some : goal.returns-in-Some
returns-in-Some c =
    let f = c.in-Some.ensures.cases in
    c.entry_ok.ensures ∙ ap entry_ok (f.same ∙ sym (head-take c.args.s.now f.enough))

pub returns-in-None : goal.returns-in-None
unfolding head_of entry_ok entry_tests
returns-in-None c = rw (lt-leb image_size (length c.args.s.now) c.in-None.ensures.cases) refl
