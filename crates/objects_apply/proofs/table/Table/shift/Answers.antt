-- The entry where a record puts it.
use mathlib.Core.Path.{◌≡◌, sym, ap, ◌∙◌}
use native.Mathlib.Omega.{arith}
use lib.ListN.{get_or}
use Rattle.objects.specs.Entries.{moved, blank, named}
use Rattle.objects_apply.specs.Held.{held}
use Rattle.objects_apply.proofs.Marks.{Stands, slot_stands, slot_absent}
use Rattle.objects_apply.proofs.Moving.{told_unknown, told_static, told_moved}
use Rattle.objects_apply.proofs.Stores.{slot_within, slot_entry, moved_held, moved_marks, moved_sought}
use Rattle.objects_apply.proofs.table.Table.shift.Goals as goal
use Rattle.objects_apply.proofs.table.Table.shift.Goals.{In-Some}

there : (c : In-Some) → Stands (held c.args.self.now) c.args.m.element c.in-Some.at
there c = slot_stands _ _ (sym c.in-Some.is ∙ c.slot.ensures)

pub returns-in_default-clause-told : goal.returns-in_default-clause-told
returns-in_default-clause-told c = told_unknown _ _ _ (slot_absent _ _ (sym c.in_default.is ∙ c.slot.ensures)) c.at.ensures

pub bounds-self-at : goal.bounds-self-at
bounds-self-at c = slot_within c.args.self.now c.args.m (there (goal.at.bounds-self-at c).In-Some)

pub offset_bounds-self-at : goal.offset_bounds-self-at
offset_bounds-self-at c = let w = slot_within c.args.self.now c.args.m (there (goal.at.offset_bounds-self-at c).In-Some) in omega arith

-- the entry as it is
entry : (c : In-Some) → named (held c.args.self.now) c.args.m.element ≡ get_or c.args.self.now.entries c.in-Some.at blank
entry c = slot_entry c.args.self.now c.args.m (there c)

pub returns-then-o-eq0-clause-told : goal.returns-then-o-eq0-clause-told
returns-then-o-eq0-clause-told c =
    let i = (goal.at.returns-then-o-eq0-clause-told c).In-Some in
    told_static _ _ _ (there i).used (entry i) c.if-o-eq0.true c.at-then-o-eq0.ensures

pub invariant_of-self-clause-noted : goal.invariant_of-self-clause-noted
invariant_of-self-clause-noted c =
    let i = (goal.at.invariant_of-self-clause-noted c).In-Some in
    moved_marks c.args.self.now c.args.m (there i) (c.moved.ensures ∙ ap (moved c.args.m) (sym (entry i)))

pub invariant_of-self-clause-none_free : goal.invariant_of-self-clause-none_free
invariant_of-self-clause-none_free c =
    let i = (goal.at.invariant_of-self-clause-none_free c).In-Some in
    moved_sought c.args.self.now c.args.m (there i) (c.moved.ensures ∙ ap (moved c.args.m) (sym (entry i)))

pub returns-clause-told : goal.returns-clause-told
returns-clause-told c =
    let i = (goal.at.returns-clause-told c).In-Some in
    told_moved _ _ _ (there i).used (entry i) c.if-o-eq0.false

pub returns-clause-table : goal.returns-clause-table
returns-clause-table c =
    let i = (goal.at.returns-clause-table c).In-Some in
    moved_held c.args.self.now c.args.m (there i) (c.moved.ensures ∙ ap (moved c.args.m) (sym (entry i)))
