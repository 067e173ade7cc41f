-- The loop keeps what is left to write: the bytes from i on, written now, give the whole.
use Rattle.std.proofs.Common.{◌+◌, drop}
use Rattle.runs.proofs.Writing.{Writing}
use Rattle.runs.proofs.copy.Given as goal

abbrev pub invariant-loop-i : goal.invariant-loop-i
invariant-loop-i l = Writing l.initial.out l.at l.src l.out (l.at + l.i) (drop l.i l.src)
