-- What is left of the records comes to what all of them come to.
use Rattle.objects_pmd.specs.Values.{aods_of}
use Rattle.objects_apply.specs.Held.{held}
use Rattle.objects_apply.proofs.Putting.{Putting}
use Rattle.objects_apply.proofs.table.Table.set_all.Given as goal

abbrev pub invariant-loop-k : goal.invariant-loop-k
invariant-loop-k l = Putting (aods_of l.numbers) (held l.initial.self) (held l.self) l.k
