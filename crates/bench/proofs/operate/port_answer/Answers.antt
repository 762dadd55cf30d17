use mathlib.Core.Path.{◌∙◌, ap}
use Prim.Native.Nat.{ℕ}
use Rattle.bench.specs.Calls.{answer_call}
use Rattle.bench.proofs.Join.{passed, host-refused, host-done}
use Rattle.ring.specs.Refusal.{address_number}
use Rattle.bench.proofs.operate.port_answer.Goals as goal

pub returns-in_err-address_allowed : goal.returns-in_err-address_allowed
unfolding answer_call
returns-in_err-address_allowed c =
    rw (passed _ c.from_residual.ensures) (host-refused _ _ _ (c.in_err-address_allowed.ensures ∙ ap (λ (n : ℕ). address_number n c.args.addr) c.lent-lent.ensures))

pub returns : goal.returns
unfolding answer_call
returns c = host-done _ (c.in_ok-address_allowed.ensures ∙ ap (λ (n : ℕ). address_number n c.args.addr) c.lent-lent.ensures) c.set_answer.ensures c.host.ensures
