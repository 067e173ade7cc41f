-- `ballastwren::bw_objects_apply` meets its contract: the layer below answers, and its answer is told.
use Rattle.ballastwren.proofs.Edge.{table_told}
use Rattle.ballastwren.proofs.bw_objects_apply.Goals as goal

pub returns : goal.returns
returns c = table_told c.apply.ensures c.from.ensures
