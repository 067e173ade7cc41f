-- `lookup::seek_inside` meets its contract. The loop keeps what is left and what was found, for any tags and any fuel that is enough.
use mathlib.Core.List.{List}
use mathlib.Core.Bool.{Bool}
use Prim.Native.Nat.{ℕ, ◌-◌}
use lib.ListN.{length}
use Rattle.pack.specs.Payloads.{ground_of}
use Rattle.pack.specs.declared.Name.{Name}
use Rattle.lookup.specs.Sought.{Tells}
use Rattle.lookup.proofs.Seeking.{Within}
use Rattle.lookup.proofs.seek_inside.Given as goal

abbrev pub invariant-loop-at : goal.invariant-loop-at
invariant-loop-at l = (tags : List ℕ) (test : Name → Bool) → Tells tags test l.fn.wanted → Within l.q (ground_of tags l.total) test l.base l.used l.count l.at l.first

abbrev pub decreases-loop-at : goal.decreases-loop-at
decreases-loop-at l = length l.q - l.at
