-- `scrub_sheet::all_good` meets its contract. The numbers that were passed, from the last on, are good and marked.
use Rattle.scrub_sheet.proofs.Numbers.{Judging}
use Rattle.scrub_sheet.proofs.all_good.Given as goal

abbrev pub invariant-loop-k : goal.invariant-loop-k
invariant-loop-k l = Judging l.them l.seen l.k
