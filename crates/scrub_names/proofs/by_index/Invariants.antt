-- `scrub_names::by_index` meets its contract. The loop places the tags from the last mapping to the first.
use mathlib.Core.Path.{◌≡◌}
use lib.ListN.{drop}
use Rattle.scrub_names.specs.Given.{by_index}
use Rattle.scrub_names.proofs.by_index.Given as goal

abbrev pub invariant-loop-k : goal.invariant-loop-k
invariant-loop-k l = l.index ≡ by_index (drop l.k l.mappings)
