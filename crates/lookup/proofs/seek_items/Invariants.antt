-- `lookup::seek_items` meets its contract. The loop keeps what is left and what was found, for any tags.
use mathlib.Core.List.{List}
use mathlib.Core.Bool.{Bool}
use Prim.Native.Nat.{ℕ, ◌-◌}
use lib.ListN.{length}
use Rattle.pack.specs.Payloads.{ground_of}
use Rattle.pack.specs.declared.Name.{Name}
use Rattle.lookup.specs.Sought.{Tells}
use Rattle.lookup.proofs.Seeking.{SeekingItems}
use Rattle.lookup.proofs.seek_items.Given as goal

abbrev pub invariant-loop-at : goal.invariant-loop-at
invariant-loop-at l = (tags : List ℕ) (test : Name → Bool) → Tells tags test l.wanted → SeekingItems l.s (ground_of tags l.total) test l.from l.n l.at l.first

abbrev pub decreases-loop-at : goal.decreases-loop-at
decreases-loop-at l = length l.s - l.at
