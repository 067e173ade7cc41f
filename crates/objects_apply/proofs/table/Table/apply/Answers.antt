-- By the kind.
use mathlib.Core.Path.{refl, ap, ◌∙◌}
use Rattle.std.specs.Prelude.{Some, Err}
use Rattle.std.proofs.lemmas.Result.{err_from_is_err_and}
use Rattle.pmd.specs.Table.{kind_of}
use Rattle.pmd.proofs.Naming.{is_known, is_unknown}
use Rattle.objects_apply.proofs.Reading.{worked_by, worked_unread, by_other}
use Rattle.objects_apply.proofs.table.Table.apply.Goals as goal

pub returns-in_err-try_from : goal.returns-in_err-try_from
returns-in_err-try_from c =
    let p = err_from_is_err_and c.from_residual.result c.from_residual.ensures.1 in
    let u = is_unknown (kind_of c.args.kind) c.in_err-try_from.ensures in
    worked_by c.args.kind c.args.value.now u.0 (worked_unread (p.1 ∙ ap Err (p.2 ∙ u.1)) refl)

pub returns-in-Aod : goal.returns-in-Aod
returns-in-Aod c =
    worked_by c.args.kind c.args.value.now (is_known (kind_of c.args.kind) c.in_ok-try_from.ensures ∙ ap Some c.in-Aod.is) c.apply_aod.ensures

pub returns-in-Xyz : goal.returns-in-Xyz
returns-in-Xyz c =
    worked_by c.args.kind c.args.value.now (is_known (kind_of c.args.kind) c.in_ok-try_from.ensures ∙ ap Some c.in-Xyz.is) c.apply_xyz.ensures

pub returns-in_default : goal.returns-in_default
returns-in_default c =
    worked_by c.args.kind c.args.value.now (is_known (kind_of c.args.kind) c.in_ok-try_from.ensures)
    (worked_unread (ap Err c.at.ensures) (by_other _ c.args.value.now c.in_default.not-Aod c.in_default.not-Xyz))
