-- `ballastwren::bw_read` meets its contract: the layer below delivers, and its answer is told.
use Rattle.refusals.proofs.One.{lends_told}
use Rattle.ballastwren.proofs.bw_read.Goals as goal

pub returns : goal.returns
returns c = lends_told c.rows.ensures c.from.ensures
