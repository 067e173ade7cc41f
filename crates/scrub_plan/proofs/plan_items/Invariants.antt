-- `scrub_plan::plan_items` meets its contract. The loop keeps the plan of the items that it has passed.
use Rattle.scrub_plan.proofs.Going.{Going}
use Rattle.scrub_plan.proofs.plan_items.Given as goal

abbrev pub invariant-loop-i : goal.invariant-loop-i
invariant-loop-i l = Going l.index l.items l.marks l.ops l.inner l.size l.i
