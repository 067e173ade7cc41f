-- `vectors::taken` meets its contract. The loop keeps what is still to be taken.
use Prim.Native.Nat.{◌≤◌}
use lib.ListN.{length}
use Rattle.vectors.proofs.Loops.{Taking}
use Rattle.vectors.proofs.taken.Given as goal

abbrev pub invariant-loop-n : goal.invariant-loop-n
invariant-loop-n l = (l.at ≤ length l.s) × Taking l.s l.initial.out l.out l.n l.at
