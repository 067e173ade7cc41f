-- No slot that the search has passed is free.
use mathlib.Core.Path.{◌≡◌}
use Prim.Native.Nat.{◌≤◌}
use Rattle.runs.specs.Finding.{place}
use Rattle.objects.specs.Entries.{free}
use Rattle.objects_apply.specs.Held.{held}
use Rattle.objects_apply.proofs.table.Table.free_slot.Given as goal

abbrev pub invariant-loop-at : goal.invariant-loop-at
invariant-loop-at l = (l.self ≡ l.initial.self) × (l.at ≤ place free (held l.initial.self))
