use mathlib.Core.Path.{◌∙◌, ap}
use Prim.Native.Nat.{ℕ}
use Rattle.bench.specs.Calls.{plug_call}
use Rattle.bench.proofs.Join.{passed, host-refused, host-done}
use Rattle.ring.specs.Refusal.{port_number}
use Rattle.bench.proofs.operate.plug.Goals as goal

pub returns-in_err-port_allowed : goal.returns-in_err-port_allowed
unfolding plug_call
returns-in_err-port_allowed c =
    rw (passed _ c.from_residual.ensures) (host-refused _ _ _ (c.in_err-port_allowed.ensures ∙ ap (λ (n : ℕ). port_number n c.args.port) c.lent-lent.ensures))

pub returns : goal.returns
unfolding plug_call
returns c = host-done _ (c.in_ok-port_allowed.ensures ∙ ap (λ (n : ℕ). port_number n c.args.port) c.lent-lent.ensures) c.set_plug.ensures c.host.ensures
