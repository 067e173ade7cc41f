-- `scrub_plan::plan_items` meets its contract. The loop keeps the plan of the items that it has passed.
use Rattle.scrub_plan.proofs.Going.{going_begins, going_ends, going_on}
use Rattle.scrub_plan.proofs.plan_items.Goals as goal

pub loop-i-init : goal.loop-i-init
loop-i-init c = rw c.requires.3 (going_begins _ _ _ c.requires.0)

pub loop-i-preserved : goal.loop-i-preserved
loop-i-preserved c =
    let e = c.plan_item-plan.ensures in
    going_on c.requires.0 c.told-marks _ c.loop-i.invariant c.loop-i-test.true c.loop-i.auto.i _ c.tag_of-tag.ensures _ e.plan e.small e.within

pub returns : goal.returns
returns c = going_ends c.requires.0 c.told-marks c.loop-i.invariant c.loop-i-test.false
