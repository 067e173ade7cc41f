-- `scrub_names::by_index` meets its contract.
use mathlib.Core.Path.{sym, ap}
use native.Mathlib.Omega.{arith}
use lib.ListN.{drop_of_length-le}
use Rattle.scrub_names.specs.Given.{by_index}
use Rattle.scrub_names.proofs.Naming.{placing_step}
use Rattle.scrub_names.proofs.by_index.Goals as goal

pub loop-k-init : goal.loop-k-init
unfolding by_index
loop-k-init c = sym (ap by_index (drop_of_length-le c.args.mappings.now (omega arith)))

pub loop-k-preserved : goal.loop-k-preserved
loop-k-preserved c = placing_step _ _ _ _ c.loop-k.invariant c.loop-k-test.true c.loop-k.auto.k
