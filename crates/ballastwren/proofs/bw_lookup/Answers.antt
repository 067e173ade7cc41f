-- `ballastwren::bw_lookup` meets its contract: the layer below answers, and its answer is told.
use mathlib.Core.Path.{ap, ◌∙◌}
use Rattle.ballastwren.specs.Told.{told_found_of}
use Rattle.ballastwren.proofs.bw_lookup.Goals as goal

pub returns : goal.returns
returns c = c.from.ensures ∙ ap told_found_of c.lookup.ensures
