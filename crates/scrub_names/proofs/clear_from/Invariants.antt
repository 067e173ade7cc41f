-- `scrub_names::clear_from` meets its contract. The marks that were passed are not clear.
use mathlib.Core.Path.{◌≡◌}
use Prim.Native.Nat.{◌≤◌}
use Rattle.scrub_names.specs.Given.{clear_at}
use Rattle.scrub_names.proofs.clear_from.Given as goal

abbrev pub invariant-loop-next : goal.invariant-loop-next
invariant-loop-next l = (clear_at l.taken l.next ≡ clear_at l.taken l.from) × (64 ≤ l.from → l.next ≡ l.from)
