-- `pmd_read::pmd_read` meets its contract: each return by what is delivered there.
use mathlib.Core.Path.{ap, ◌∙◌}
use Rattle.std.specs.Prelude.{Err}
use Rattle.std.proofs.lemmas.Result.{err_from_is_err_and}
use Rattle.pmd.specs.Table.{kind_of}
use Rattle.pmd.proofs.Naming.{is_known, is_unknown}
use Rattle.pmd.proofs.Shapes.{shape_turns, shape_row}
use Rattle.pmd.proofs.Answers.{delivers_none, delivers_as}
use Rattle.pmd_read.proofs.Answers.{read_unknown, read_big, read_shape_lem}
use Rattle.pmd_read.proofs.pmd_read.Goals as goal

pub returns-in_err-kind : goal.returns-in_err-kind
returns-in_err-kind c =
    let p = err_from_is_err_and c.from_residual.result c.from_residual.ensures.1 in
    let u = is_unknown (kind_of c.args.kind) c.in_err-kind.ensures in
    delivers_none (read_unknown c.args.kind c.args.value.now u.0) (p.1 ∙ ap Err (p.2 ∙ u.1))

pub returns-then-value-gt4096 : goal.returns-then-value-gt4096
returns-then-value-gt4096 c =
    delivers_none (read_big c.args.kind c.args.value.now (is_known (kind_of c.args.kind) c.in_ok-kind.ensures) c.if-value-gt4096.true) (ap Err c.at.ensures)

pub returns-in-Etd : goal.returns-in-Etd
returns-in-Etd c =
    let of = c.shape_of.ensures in
    let a = c.args in
    delivers_as
    (read_shape_lem a.kind a.value.now (is_known (kind_of a.kind) c.in_ok-kind.ensures) c.if-value-gt4096.false
    (shape_turns _ c.shape_of.result of.pieces of.again of.size c.in-Etd.is))
    c.read_by.ensures

pub returns-in_default : goal.returns-in_default
returns-in_default c =
    let of = c.shape_of-in_default.ensures in
    let a = c.args in
    delivers_as
    (read_shape_lem a.kind a.value.now (is_known (kind_of a.kind) c.in_ok-kind.ensures) c.if-value-gt4096.false
    (shape_row _ c.shape_of-in_default.result of.pieces of.again of.size c.in_default.not-Etd))
    c.read_by-in_default.ensures
