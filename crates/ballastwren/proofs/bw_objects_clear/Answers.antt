-- `ballastwren::bw_objects_clear` meets its contract: the layer below answers, and its answer is told.
use Rattle.ballastwren.proofs.Edge.{table_told}
use Rattle.ballastwren.proofs.bw_objects_clear.Goals as goal

pub returns : goal.returns
returns c = table_told c.clear.ensures c.from.ensures
