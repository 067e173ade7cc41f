-- `scrub_sheet::short_among` meets its contract. The loop keeps that those found and those left are all.
use Rattle.scrub_sheet.proofs.Short.{Finding}
use Rattle.scrub_sheet.proofs.short_among.Given as goal

abbrev pub invariant-loop-k : goal.invariant-loop-k
invariant-loop-k l = Finding l.s l.at l.count l.found l.k
