-- `ballastwren::bw_sheet_check` meets its contract: the layer below answers, and its answer is told.
use mathlib.Core.Path.{ap, ◌∙◌}
use Rattle.ballastwren.specs.Told.{told_of}
use Rattle.ballastwren.proofs.bw_sheet_check.Goals as goal

pub returns : goal.returns
returns c = c.from.ensures ∙ ap told_of c.check.ensures
