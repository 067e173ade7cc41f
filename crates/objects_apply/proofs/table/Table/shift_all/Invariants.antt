-- What is left of the records comes to what all of them come to.
use Rattle.objects_apply.specs.Worked.{moves_of}
use Rattle.objects_apply.specs.Held.{held}
use Rattle.objects_apply.proofs.Moving.{Moving}
use Rattle.objects_apply.proofs.table.Table.shift_all.Given as goal

abbrev pub invariant-loop-k : goal.invariant-loop-k
invariant-loop-k l = Moving (moves_of l.numbers) (held l.initial.self) (held l.self) l.k
