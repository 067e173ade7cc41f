-- Two outcomes of a call that meet the promise on the same table coincide: the answer, and each entry.
use mathlib.Core.Path.{◌≡◌}
use mathlib.Core.List.{List}
use Rattle.runs.proofs.Cases.{one}
use Rattle.refusals.specs.Outcomes.{Answer}
use Rattle.objects.specs.declared.Object.{Object}
use Rattle.objects.specs.Calls.{Call}
use Rattle.objects_apply.specs.Applied.{Applied}

pub applied_one : (c : Call) (before us vs : List Object) (a b : Answer) → Applied c before a us → Applied c before b vs → (a ≡ b) × (us ≡ vs)
applied_one c before us vs a b p q = (one p.told q.told, one p.table q.table)
