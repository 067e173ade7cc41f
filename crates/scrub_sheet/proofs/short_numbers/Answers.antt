-- `scrub_sheet::short_numbers` meets its contract. By cases on what the sheet asks for.
use mathlib.Core.Path.{sym, ◌∙◌}
use mathlib.Core.Bool.{true, false}
use lib.ListN.{get_or-replicate}
use Rattle.pack.specs.Said.{number}
use Rattle.scrub_kept.proofs.Sheets.{none_keeps}
use Rattle.scrub_sheet.proofs.short_numbers.Goals as goal

pub returns-in-All : goal.returns-in-All
returns-in-All c = rw c.in-All.is (λ n h. get_or-replicate 128 n true false h)

pub returns-in-Nothing : goal.returns-in-Nothing
returns-in-Nothing c = rw c.in-Nothing.is (λ n h. get_or-replicate 128 n false false h ∙ sym (none_keeps (number n)))
