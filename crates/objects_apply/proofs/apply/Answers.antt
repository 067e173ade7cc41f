-- What was worked out on a copy of the table.
use mathlib.Core.Path.{sym, ap, ◌∙◌}
use native.Mathlib.Nat.{sub-zero}
use Rattle.std.specs.Prelude.{Err}
use Rattle.std.proofs.lemmas.Result.{err_from_is_err_and}
use Rattle.objects_apply.proofs.Calls.{not_taken, is_refused, is_done, done_length}
use Rattle.objects_apply.proofs.apply.Goals as goal

pub returns-in_err-load : goal.returns-in_err-load
returns-in_err-load c =
    let p = err_from_is_err_and c.from_residual.result c.from_residual.ensures.1 in
    let l = c.in_err-load.ensures in not_taken l.0 (p.1 ∙ ap Err (p.2 ∙ l.1))

pub returns-in_err-count : goal.returns-in_err-count
returns-in_err-count c =
    let p = err_from_is_err_and c.from_residual-in_err-count.result c.from_residual-in_err-count.ensures.1 in
    let l = c.in_ok-load.ensures in is_refused l.0 l.1 c.in_err-count.ensures (p.1 ∙ ap Err p.2)

pub copy_from_slice-requires : goal.copy_from_slice-requires
copy_from_slice-requires c = let l = c.in_ok-load.ensures in rw sub-zero (done_length l.0 l.1 c.in_ok-count.ensures)

pub returns : goal.returns
returns c =
    let l = c.in_ok-load.ensures in
    is_done l.0 l.1 c.in_ok-count.ensures (rw sub-zero at c.copy_from_slice.ensures.after)
