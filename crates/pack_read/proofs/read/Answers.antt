-- `pack_read::read` meets its contract: the outline and what the arrays hold are the reading.
use mathlib.Core.Path.{ap, ◌∙◌}
use Rattle.std.specs.Prelude.{Err}
use Rattle.std.proofs.lemmas.Result.{err_from_is_err_and}
use Rattle.refusals.proofs.Lent.{answers}
use Rattle.pack.specs.Slots.{shown}
use Rattle.pack_read.proofs.Outlines.{outlined_none, outlined_shown}
use Rattle.pack_read.proofs.read.Goals as goal

pub returns-in_err-found : goal.returns-in_err-found
returns-in_err-found c =
    let p = err_from_is_err_and c.from_residual.result c.from_residual.ensures.1 in
    answers shown (outlined_none c.read_into.ensures c.in_err-found.was) (p.1 ∙ ap Err p.2)

pub returns : goal.returns
returns c = outlined_shown c.read_into.ensures c.in_ok-found.was
