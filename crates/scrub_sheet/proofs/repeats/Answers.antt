-- `scrub_sheet::repeats` meets its contract. A number whose mark is not set is none of the others.
use Rattle.scrub_sheet.proofs.Numbers.{unmarked}
use Rattle.scrub_sheet.proofs.repeats.Goals as goal

pub returns-else-seen-n-ne0 : goal.returns-else-seen-n-ne0
returns-else-seen-n-ne0 c = rw c.if-seen-n-ne0.false (unmarked _ _ _ c.requires c.if-seen-n-ne0.false)
