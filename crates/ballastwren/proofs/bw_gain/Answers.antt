-- `ballastwren::bw_gain` meets its contract: the layer below answers, and its answer is told.
use mathlib.Core.Path.{ap, ◌∙◌}
use Rattle.ballastwren.specs.Told.{told_gain_of}
use Rattle.ballastwren.proofs.bw_gain.Goals as goal

pub returns : goal.returns
returns c = c.from.ensures ∙ ap told_gain_of c.gain.ensures
