-- `vectors::repeated` meets its contract. The loop keeps what is still to be put.
use Rattle.vectors.proofs.Loops.{Repeating}
use Rattle.vectors.proofs.repeated.Given as goal

abbrev pub invariant-loop : goal.invariant-loop
invariant-loop l = Repeating l.block l.times l.initial.out l.from l.out l.n l.counter
