-- `cases` ends: each turn leaves four bytes fewer at least, and no more cases were run than bytes passed.
use Rattle.std.proofs.Common.{◌+◌, ◌≤◌, length}
use Rattle.vectors_pmd.proofs.cases.Given as goal

abbrev pub invariant-loop-size : goal.invariant-loop-size
invariant-loop-size g l = l.n + length l.left ≤ length l.all

abbrev pub decreases-loop-size : goal.decreases-loop-size
decreases-loop-size g l = length l.left
