-- The entry that a record makes, in its slot, and its mark.
use mathlib.Core.Path.{refl, sym, ap, ◌∙◌}
use mathlib.Core.List.{List}
use native.Mathlib.Omega.{arith}
use Rattle.objects.specs.declared.Object.{Object}
use Rattle.objects.specs.Calls.{put}
use Rattle.objects_apply.specs.Held.{held}
use Rattle.objects_apply.specs.Slots.{seat_of}
use Rattle.objects_apply.proofs.Seats.{Seated, seated, unseated, set_done, set_full}
use Rattle.objects_apply.proofs.Stores.{seat_within, set_held, set_marks, set_sought}
use Rattle.objects_apply.proofs.table.Table.set.Goals as goal
use Rattle.objects_apply.proofs.table.Table.set.Goals.{In-Some}

-- the slot, in the table as it was and as the search leaves it
before : (c : In-Some) → Seated (held c.args.self.now) c.args.r.element c.in-Some.at
before c = seated _ _ (sym c.in-Some.is ∙ c.seat.ensures.found)

there : (c : In-Some) → Seated (held c.seat.new.self) c.args.r.element c.in-Some.at
there c = seated _ _ (sym c.in-Some.is ∙ c.seat.ensures.found ∙ ap (λ (l : List Object). seat_of l c.args.r.element) (sym c.seat.ensures.kept))

pub returns-in_default-clause-told : goal.returns-in_default-clause-told
returns-in_default-clause-told c =
    set_full _ _ (unseated _ _ (sym c.in_default.is ∙ c.seat.ensures.found)) c.at.ensures

pub bounds-self-at : goal.bounds-self-at
bounds-self-at c =
    seat_within c.seat.new.self c.args.r c.requires.used (there (goal.at.bounds-self-at c).In-Some) c.from.ensures

pub offset_bounds-self-at : goal.offset_bounds-self-at
offset_bounds-self-at c =
    let w = seat_within c.seat.new.self c.args.r c.requires.used (there (goal.at.offset_bounds-self-at c).In-Some) c.from.ensures in omega arith

pub overflow_add-self : goal.overflow_add-self
overflow_add-self c =
    let w = seat_within c.seat.new.self c.args.r c.requires.used (there (goal.at.overflow_add-self c).In-Some) c.from.ensures in omega arith

pub overflow_cast-self : goal.overflow_cast-self
overflow_cast-self c =
    let w = seat_within c.seat.new.self c.args.r c.requires.used (there (goal.at.overflow_cast-self c).In-Some) c.from.ensures in omega arith

pub invariant_of-self-clause-noted : goal.invariant_of-self-clause-noted
invariant_of-self-clause-noted c =
    set_marks c.seat.new.self c.args.r c.requires.used (there (goal.at.invariant_of-self-clause-noted c).In-Some) c.from.ensures c.requires.small refl

pub invariant_of-self-clause-none_free : goal.invariant_of-self-clause-none_free
invariant_of-self-clause-none_free c =
    set_sought c.seat.new.self c.args.r c.requires.used (there (goal.at.invariant_of-self-clause-none_free c).In-Some) c.from.ensures

pub returns-clause-told : goal.returns-clause-told
returns-clause-told c = set_done _ _ (before (goal.at.returns-clause-told c).In-Some).has

pub returns-clause-table : goal.returns-clause-table
returns-clause-table c =
    set_held c.seat.new.self c.args.r c.requires.used (there (goal.at.returns-clause-table c).In-Some) c.from.ensures
    ∙ ap (put c.args.r) c.seat.ensures.kept
