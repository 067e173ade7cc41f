-- `scrub_sheet::is_among` meets its contract. The numbers that are left decide what all of them do.
use mathlib.Core.Path.{◌≡◌}
use lib.ListN.{drop}
use Rattle.runs.specs.Same.{among}
use Rattle.scrub_sheet.proofs.is_among.Given as goal

abbrev pub invariant-loop-other : goal.invariant-loop-other
invariant-loop-other l = among l.n (drop l.other-index l.others) ≡ among l.n l.others
