use Rattle.tally.proofs.Join.{share-joined}
use Rattle.tally.proofs.share.share_of.Goals as goal

pub returns : goal.returns
returns c =
    share-joined _ _ _ _ c.written-w.ensures c.held.ensures.many c.less-read.ensures c.state_number.ensures c.share_by.ensures
