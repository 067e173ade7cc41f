-- The slot of its entry, or the first free one.
use mathlib.Core.Path.{sym, ◌∙◌}
use Rattle.objects_apply.proofs.Seats.{seat_own, seat_new}
use Rattle.objects_apply.proofs.table.Table.seat.Goals as goal

pub returns-in-Some-clause-found : goal.returns-in-Some-clause-found
returns-in-Some-clause-found c = seat_own _ _ (sym c.in-Some.is ∙ c.slot.ensures)

pub returns-in-None-clause-found : goal.returns-in-None-clause-found
returns-in-None-clause-found c = c.free_slot.ensures.found ∙ seat_new _ _ (sym c.in-None.is ∙ c.slot.ensures)
