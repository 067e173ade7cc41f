-- An empty table has no marks.
use mathlib.Core.Path.{refl}
use native.Mathlib.Omega.{arith}
use Rattle.objects_apply.proofs.Marks.{marks_none}
use Rattle.objects_apply.proofs.table.Table.empty.Goals as goal

pub invariant_of-result-clause-noted : goal.invariant_of-result-clause-noted
invariant_of-result-clause-noted c = marks_none 4096 refl refl
