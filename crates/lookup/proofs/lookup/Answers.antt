-- `lookup::lookup` meets its contract: each return by what was sought in each pack.
use mathlib.Core.Path.{sym, ap, ◌∙◌}
use Rattle.std.specs.Prelude.{Ok, Err}
use Rattle.std.proofs.lemmas.Result.{err_from_is_err_and}
use Rattle.lookup.proofs.Looked.{told_ok, told_err, main_refused, other_refused, in_main, backup_refused, in_backup, in_neither}
use Rattle.lookup.specs.declared.Unfound.TheVariants as U
use Rattle.lookup.proofs.lookup.Goals as goal

pub returns-in_err-spot : goal.returns-in_err-spot
returns-in_err-spot c =
    let p = err_from_is_err_and c.from_residual.result c.from_residual.ensures.1 in
    let t = told_err U.Main c.seek.result c.map_err.ensures.cases c.in_err-spot.was in
    rw (p.1, p.2) (ap Err t.2 ∙ sym (main_refused _ _ _ c.seek.ensures t.1))

pub returns-in_err-map_err : goal.returns-in_err-map_err
returns-in_err-map_err c =
    let p = err_from_is_err_and c.from_residual-in_err-map_err.result c.from_residual-in_err-map_err.ensures.1 in
    let first = told_ok U.Main c.seek.result c.map_err.ensures.cases c.in_ok-spot.was in
    let t = told_err U.Backup c.check.result c.map_err-in-Some.ensures.cases c.in_err-map_err.was in
    rw (p.1, p.2) (ap Err t.2 ∙ sym (other_refused _ _ _ c.seek.ensures (first ∙ ap Ok c.in-Some.is) c.check.ensures t.1))

pub returns-in-Some : goal.returns-in-Some
returns-in-Some c =
    let first = told_ok U.Main c.seek.result c.map_err.ensures.cases c.in_ok-spot.was in
    let other = told_ok U.Backup c.check.result c.map_err-in-Some.ensures.cases c.in_ok-map_err.was in
    ap Ok c.found_in.ensures ∙ sym (in_main _ _ _ c.seek.ensures (first ∙ ap Ok c.in-Some.is) c.check.ensures other)

pub returns-in_err-spot-2 : goal.returns-in_err-spot-2
returns-in_err-spot-2 c =
    let p = err_from_is_err_and c.from_residual-in_err-spot-2.result c.from_residual-in_err-spot-2.ensures.1 in
    let first = told_ok U.Main c.seek.result c.map_err.ensures.cases c.in_ok-spot.was in
    let t = told_err U.Backup c.seek-2.result c.map_err-2.ensures.cases c.in_err-spot-2.was in
    rw (p.1, p.2) (ap Err t.2 ∙ sym (backup_refused _ _ _ c.seek.ensures (first ∙ ap Ok c.in_default.is) c.seek-2.ensures t.1))

pub returns-in-Some-2 : goal.returns-in-Some-2
returns-in-Some-2 c =
    let first = told_ok U.Main c.seek.result c.map_err.ensures.cases c.in_ok-spot.was in
    let second = told_ok U.Backup c.seek-2.result c.map_err-2.ensures.cases c.in_ok-spot-2.was in
    ap Ok c.found_in-in-Some-2.ensures ∙ sym (in_backup _ _ _ c.seek.ensures (first ∙ ap Ok c.in_default.is) c.seek-2.ensures (second ∙ ap Ok c.in-Some-2.is))

pub returns-in-None : goal.returns-in-None
returns-in-None c =
    let first = told_ok U.Main c.seek.result c.map_err.ensures.cases c.in_ok-spot.was in
    let second = told_ok U.Backup c.seek-2.result c.map_err-2.ensures.cases c.in_ok-spot-2.was in
    sym (in_neither _ _ _ c.seek.ensures (first ∙ ap Ok c.in_default.is) c.seek-2.ensures (second ∙ ap Ok c.in-None.is))
