-- `vectors::laid` meets its contract. The loop keeps what is still to be laid.
use Rattle.vectors.proofs.Loops.{Laying}
use Rattle.vectors.proofs.laid.Given as goal

abbrev pub invariant-loop-n : goal.invariant-loop-n
invariant-loop-n l = Laying l.numbers l.initial.out l.out l.n-index l.at
