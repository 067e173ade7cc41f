-- The mark of an element less 1, and none past the end.
use mathlib.Core.Path.{refl, sym, ◌∙◌}
use Prim.Native.Nat.{◌<◌, ◌≤◌}
use native.Mathlib.Omega.{arith}
use borrow.Author.Tests.{ltb-true, ltb-false}
use Rattle.std.proofs.lemmas.Grind.{get_or_default_zero}
use Rattle.objects_apply.proofs.Marks.{mark_far, mark_near, slot_none, slot_by}
use Rattle.objects_apply.proofs.table.Table.slot.Goals as goal

pub returns-in_err-mark : goal.returns-in_err-mark
returns-in_err-mark c =
    let s = c.args.self.now in
    let l = ltb-false _ _ (sym c.in_err-mark.ensures.lookup.0) in
    let far : 4096 ≤ c.args.element = omega (arith, s.noted.long) in
    c.from_residual.ensures ∙ slot_none _ _ refl (mark_far _ s.noted far)

pub returns : goal.returns
returns c =
    let s = c.args.self.now in
    let l = ltb-true _ _ (sym c.in_ok-mark.ensures.lookup.0) in
    let near : c.args.element < 4096 = omega (arith, s.noted.long) in
    let there = get_or_default_zero s.slots c.args.element c.in_ok-mark.field-0.now (omega arith) in
    slot_by _ _ _ (c.from.ensures ∙ c.in_ok-mark.ensures.lookup.1 ∙ there ∙ mark_near _ s.noted near) c.checked_sub.ensures
