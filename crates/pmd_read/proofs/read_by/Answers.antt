-- `pmd_read::read_by` meets its contract: each return by what is delivered there.
use mathlib.Core.Path.{ap, ◌∙◌}
use lib.ListN.{length}
use Rattle.std.specs.Prelude.{Err}
use Rattle.std.proofs.lemmas.Result.{err_from_is_err_and}
use Rattle.refusals.proofs.Lent.{refused_was}
use Rattle.pmd.proofs.Answers.{delivers_none}
use Rattle.pmd_read.proofs.Answers.{counted_noroom, counted_roomy, counted_all}
use Rattle.pmd_read.proofs.read_by.Goals as goal

pub returns-in_err-n : goal.returns-in_err-n
returns-in_err-n g c =
    let p = err_from_is_err_and c.from_residual.result c.from_residual.ensures.1 in
    delivers_none (refused_was length c.count.ensures c.in_err-n.was) (p.1 ∙ ap Err p.2)

pub returns-then-numbers-n : goal.returns-then-numbers-n
returns-then-numbers-n g c = counted_noroom _ c.count.ensures c.in_ok-n.was c.if-numbers-n.true (ap Err c.at.ensures)

pub fill-requires : goal.fill-requires
fill-requires g c = (c.requires, counted_roomy _ c.count.ensures c.in_ok-n.was _ c.if-numbers-n.false)

pub returns : goal.returns
returns g c = counted_all _ c.count.ensures c.in_ok-n.was c.if-numbers-n.false c.fill.ensures
