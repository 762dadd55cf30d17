use Rattle.inplace.proofs.{RestJoin.quiet_by}
use Rattle.inplace.proofs.rest.put_quiet.Goals as goal

pub returns : goal.returns
returns c = quiet_by (c.args.out.now) _ _ c.put.ensures c.put-2.ensures
