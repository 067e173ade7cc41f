-- `ballastwren::bw_scrub` meets its contract: the layer below delivers, and its answer is told.
use Rattle.refusals.proofs.One.{lends_told}
use Rattle.ballastwren.proofs.bw_scrub.Goals as goal

pub returns : goal.returns
returns c = lends_told c.scrub.ensures c.from.ensures
