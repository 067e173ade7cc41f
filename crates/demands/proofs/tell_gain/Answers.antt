-- `demands::tell_gain` meets its contract: a gain is told by document 01's ranges.
use Rattle.demands.proofs.Calls.{tell_gain}
use Rattle.demands.proofs.tell_gain.Goals as goal

pub returns : goal.returns
returns c = tell_gain _ c.bw_gain.ensures
