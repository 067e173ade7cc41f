-- The entry of the element in the table itself.
use mathlib.Core.Path.{◌≡◌, refl, sym, ap, ◌∙◌}
use mathlib.Core.List.{List}
use native.Mathlib.Omega.{arith}
use lib.ListN.{set}
use Rattle.std.proofs.Common.{rules}
use Rattle.std.specs.Prelude.{Some, Err}
use Rattle.std.proofs.lemmas.Result.{err_from_is_err_and}
use Rattle.objects.specs.declared.Object.{Object}
use Rattle.objects.specs.Entries.{blank}
use Rattle.objects.proofs.Well.{judged_well}
use Rattle.objects_pmd.specs.Values.{good}
use Rattle.objects_apply.specs.Slots.{slot_of}
use Rattle.objects_apply.proofs.Marks.{slot_stands}
use Rattle.objects_apply.proofs.Calls.{not_taken, is_refused, is_done, clear_unknown, clear_known}
use Rattle.objects_apply.proofs.clear.Goals as goal
use Rattle.objects_apply.proofs.clear.Goals.{In-Some}

pub returns-in_err-load : goal.returns-in_err-load
returns-in_err-load c =
    let p = err_from_is_err_and c.from_residual.result c.from_residual.ensures.1 in
    let l = c.in_err-load.ensures in not_taken l.0 (p.1 ∙ ap Err (p.2 ∙ l.1))

pub returns-in_default : goal.returns-in_default
returns-in_default c =
    let l = c.in_ok-load.ensures in
    let s = sym c.in_default.is ∙ c.slot.ensures ∙ ap (λ (t : List Object). slot_of t c.args.element) l.1 in
    is_refused l.0 refl (clear_unknown _ _ s) (ap Err c.at.ensures)

-- the slot of the element in the table itself
slot : (c : In-Some) → Some c.in-Some.at ≡ slot_of c.args.table.now c.args.element
slot c = sym c.in-Some.is ∙ c.slot.ensures ∙ ap (λ (t : List Object). slot_of t c.args.element) c.in_ok-load.ensures.1

pub bounds-table-at : goal.bounds-table-at
bounds-table-at c = (slot_stands _ _ (slot (goal.at.bounds-table-at c).In-Some)).within

pub offset_bounds-table-at : goal.offset_bounds-table-at
offset_bounds-table-at c =
    let st = slot_stands _ _ (slot (goal.at.offset_bounds-table-at c).In-Some) in
    let w = judged_well good c.args.table.now c.in_ok-load.ensures.0 in omega (arith, st.within, w.short)

pub returns : goal.returns
returns c =
    let cleared : c.default.result ≡ blank = search rules in
    is_done c.in_ok-load.ensures.0 refl (clear_known _ _ (slot (goal.at.returns c).In-Some)) (ap (set c.args.table.now c.in-Some.at) cleared)
