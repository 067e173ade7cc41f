-- `pack::is_utility` meets its contract. The loop keeps what is left: the label is among the rows not yet passed just if it is among all.
use Rattle.std.proofs.Common.{◌≡◌, take, drop}
use Rattle.runs.specs.Same.{listed}
use Rattle.pack.specs.Fixed.{utility_labels}
use Rattle.pack.proofs.is_utility.Given as goal

abbrev pub invariant-loop-row : goal.invariant-loop-row
invariant-loop-row l = listed (take 16 (drop l.at l.s)) (drop l.row-index utility_labels) ≡ listed (take 16 (drop l.at l.s)) utility_labels
