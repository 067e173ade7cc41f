-- `scrub_sheet::judge` meets its contract. What is asked is the sheet that the bytes come to.
use borrow.Author.Rules.{rules}
use Rattle.refusals.specs.Outcomes.{answered}
use Rattle.scrub_sheet.proofs.Header.{judged_fine, judged_refused, judged_holds}
use Rattle.scrub_sheet.proofs.judge.Goals as goal

pub returns-in_err-asked : goal.returns-in_err-asked
unfolding answered
returns-in_err-asked c = rw (judged_refused c.args.s.now c.in_err-asked.ensures) (search rules)

pub new-requires : goal.new-requires
new-requires c = judged_holds _ c.in_ok-asked.ensures

pub returns : goal.returns
unfolding answered
returns c = rw (judged_fine _ c.in_ok-asked.ensures, c.new.ensures)
