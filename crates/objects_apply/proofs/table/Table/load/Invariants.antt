-- The entries that were passed are there.
use mathlib.Core.Path.{◌≡◌}
use lib.ListN.{take}
use Rattle.objects_apply.specs.Held.{held}
use Rattle.objects_apply.proofs.Judging.{Passed}
use Rattle.objects_apply.proofs.table.Table.load.Given as goal

abbrev pub invariant-loop-o : goal.invariant-loop-o
invariant-loop-o l = Passed l.lent l.o-index × (held l.self ≡ take l.o-index l.lent)
