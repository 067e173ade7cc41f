-- `scrub_plan::plan_item` meets its contract. By cases on the item.
use Rattle.scrub_plan.specs.Planned.{item_plan}
use Rattle.scrub_plan.proofs.Items.{single_plan, inner_plan}
use Rattle.scrub_plan.proofs.plan_item.Goals as goal

pub returns-in-Single-clause-plan : goal.returns-in-Single-clause-plan
returns-in-Single-clause-plan c = rw (c.in-Single.is, c.plan_payload.ensures.plan) (single_plan _ _ _)

pub returns-in-Inner-clause-plan : goal.returns-in-Inner-clause-plan
returns-in-Inner-clause-plan c = rw c.in-Inner.is (inner_plan _ _ _ _ c.plan_payload-plan.ensures.plan)

pub returns-in-Sync-clause-plan : goal.returns-in-Sync-clause-plan
unfolding item_plan
returns-in-Sync-clause-plan c = rw c.in-Sync.is c.plan_sync.ensures.plan
