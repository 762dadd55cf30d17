use lib.ListN.{take, drop}
use Prim.Native.Nat.{ℕ, ◌*◌, ◌-◌}
use mathlib.Core.Path.{ap}
use native.Mathlib.Nat.{add-sub_cancel_left}
use Rattle.std.proofs.Common.{rules}
use Rattle.bench.specs.Page.{page_call}
use Rattle.bench.proofs.{Join.passed, Looked.whole, Looked.nothing}
use borrow.Author.Tests.{lt-ltb, le-ltb}
use Rattle.bench.proofs.page.page_part.Goals as goal

pub returns-in_err-look_allowed-clause-bytes : goal.returns-in_err-look_allowed-clause-bytes
returns-in_err-look_allowed-clause-bytes c = rw (passed _ c.from_residual.ensures) (nothing _ _ _ _ c.in_err-look_allowed.ensures)

pub slice_bounds-result-end : goal.slice_bounds-result-end
slice_bounds-result-end c = let w = (whole _ _ _ c.in_ok-look_allowed.ensures).low_is in search rules

pub returns-then-page-lt256-clause-bytes : goal.returns-then-page-lt256-clause-bytes
unfolding page_call
returns-then-page-lt256-clause-bytes c =
    let w = whole _ _ _ c.in_ok-look_allowed.ensures in
    simp (lt-ltb _ _ c.if-page-lt256.true, w.high_is, w.low_is) (ap (λ (k : ℕ). take k (drop (c.args.page * 256) c.args.low.now)) (add-sub_cancel_left (c.args.page * 256) 256))

pub slice_bounds-result-end-2 : goal.slice_bounds-result-end-2
slice_bounds-result-end-2 c = let w = whole _ _ _ c.in_ok-look_allowed.ensures in let h = w.high_is in let p = w.page_in in search rules

pub returns-clause-bytes : goal.returns-clause-bytes
unfolding page_call
returns-clause-bytes c =
    let w = whole _ _ _ c.in_ok-look_allowed.ensures in
    simp (lt-ltb _ _ w.page_in, le-ltb _ _ c.if-page-lt256.false, w.high_is, w.low_is) (ap (λ (k : ℕ). take k (drop ((c.args.page - 256) * 256) c.args.high.now)) (add-sub_cancel_left ((c.args.page - 256) * 256) 256))
