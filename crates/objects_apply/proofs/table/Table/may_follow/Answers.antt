-- By what is found of the entry.
use mathlib.Core.Path.{refl, sym, ◌∙◌}
use mathlib.Core.Bool.{true, false}
use Rattle.objects_apply.proofs.Judging.{follows_free, follows_used}
use Rattle.objects_apply.proofs.Marks.{slot_free}
use Rattle.objects_apply.proofs.table.Table.may_follow.Goals as goal

pub returns-then-is_free : goal.returns-then-is_free
returns-then-is_free c = follows_free _ _ (sym c.is_free.ensures ∙ c.if-is_free.true)

pub returns-then-sound : goal.returns-then-sound
returns-then-sound c =
    follows_used _ _ {g = true} (sym c.is_free.ensures ∙ c.if-is_free.false) (sym c.if-sound.true ∙ c.sound.ensures) (slot_free _ _ c.slot.ensures c.is_none.ensures)

pub returns-else-sound : goal.returns-else-sound
returns-else-sound c =
    c.if-sound.false
    ∙ follows_used _ _ {g = false} (sym c.is_free.ensures ∙ c.if-is_free.false) (sym c.if-sound.false ∙ c.sound.ensures) refl
