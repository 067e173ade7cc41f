-- `scrub_sheet::check` meets its contract. By cases on what the sheet asks for; both counts together fit where its length does.
use native.Mathlib.Omega.{arith}
use borrow.Author.Rules.{rules}
use Rattle.scrub_sheet.proofs.Counting.{told_count, told_refused, counts_fit}
use Rattle.scrub_sheet.proofs.check.Goals as goal

pub returns-in_err-asked_by : goal.returns-in_err-asked_by
returns-in_err-asked_by c = rw (← told_refused _ c.in_err-asked_by.ensures) (search rules)

pub overflow_add-result : goal.overflow_add-result
overflow_add-result c = let h = counts_fit _ _ _ c.in_ok-asked_by.ensures c.in-These.is in omega arith

pub returns-in-All : goal.returns-in-All
returns-in-All c = told_count _ _ c.in_ok-asked_by.ensures c.in-All.is

pub returns-in-Nothing : goal.returns-in-Nothing
returns-in-Nothing c = told_count _ _ c.in_ok-asked_by.ensures c.in-Nothing.is

pub returns-in-These : goal.returns-in-These
returns-in-These c = told_count _ _ c.in_ok-asked_by.ensures c.in-These.is
