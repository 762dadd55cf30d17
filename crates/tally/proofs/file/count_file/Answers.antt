use Rattle.std.proofs.Common.{refl}
use Rattle.tally.proofs.Join.{file-counted}
use Rattle.tally.proofs.file.count_file.Goals as goal

pub returns : goal.returns
returns c =
    file-counted _ _ _ _ _ _ _ refl refl c.run_file-r.ensures c.run_file.ensures
