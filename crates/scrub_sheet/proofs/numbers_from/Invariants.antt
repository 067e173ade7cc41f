-- `scrub_sheet::numbers_from` meets its contract. The loop keeps the numbers so far and those that are left.
use Rattle.scrub_sheet.proofs.Numbers.{Filling}
use Rattle.scrub_sheet.proofs.numbers_from.Given as goal

abbrev pub invariant-loop-k : goal.invariant-loop-k
invariant-loop-k l = Filling l.s l.at l.count l.found l.k
