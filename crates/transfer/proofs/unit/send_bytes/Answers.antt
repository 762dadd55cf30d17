use Rattle.transfer.proofs.Sending.{sent_more}
use Rattle.transfer.proofs.unit.send_bytes.Goals as goal

pub loop-i-preserved : goal.loop-i-preserved
loop-i-preserved c = sent_more _ _ _ _ _ {k = c.loop-i.bus} c.loop-i.invariant c.unit_byte.ensures
