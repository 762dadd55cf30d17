use Rattle.touch.specs.Reach.{reach_of, wm_after}
use Rattle.touch.proofs.reach.reached.Goals as goal

pub returns : goal.returns
unfolding reach_of wm_after
returns c = simp (c.wm_after-after.ensures, c.own_of-own.ensures, c.spot-at.ensures, c.place_of-place.ensures, c.route_of-way.ensures)
