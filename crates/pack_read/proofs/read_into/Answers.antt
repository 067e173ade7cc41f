-- `pack_read::read_into` meets its contract: the opening is refused, or the items are read, or they are refused and the arrays emptied.
use mathlib.Core.Path.{sym, ap, ◌∙◌}
use Rattle.std.specs.Prelude.{Err}
use Rattle.std.proofs.lemmas.Result.{err_from_is_err_and}
use Rattle.pack_read.proofs.Openings.{outlined_refused, opened_small, outlined_failed, outlined_held}
use Rattle.pack_read.proofs.read_into.Goals as goal

pub returns-in_err-opening : goal.returns-in_err-opening
returns-in_err-opening c =
    let p = err_from_is_err_and c.from_residual.result c.from_residual.ensures.1 in
    outlined_refused _ c.open.ensures c.in_err-opening.was (p.1 ∙ ap Err p.2) c.requires.0

pub read_items-found-requires : goal.read_items-found-requires
read_items-found-requires c = (opened_small _ c.open.ensures c.in_ok-opening.was, c.requires.0)

pub returns-then-is_err : goal.returns-then-is_err
returns-then-is_err c =
    outlined_failed _ c.open.ensures c.in_ok-opening.was c.read_items-found.ensures (sym c.is_err.ensures.value ∙ c.if-is_err.true) c.clear.ensures.0 c.clear.ensures.1

pub returns-else-is_err : goal.returns-else-is_err
returns-else-is_err c = outlined_held _ c.open.ensures c.in_ok-opening.was c.read_items-found.ensures (sym c.is_err.ensures.value ∙ c.if-is_err.false)
