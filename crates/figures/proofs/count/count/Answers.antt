use mathlib.Core.Path.{ap}
use Rattle.figures.specs.Count.{count_of, told}
use Rattle.figures.proofs.count.count.Goals as goal

pub returns : goal.returns
unfolding count_of
returns c = ap told c.count_file-ended.ensures
