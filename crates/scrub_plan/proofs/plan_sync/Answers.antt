-- `scrub_plan::plan_sync` meets its contract. A length takes few bytes.
use Prim.Native.Nat.{◌+◌}
use native.Mathlib.Omega.{arith}
use Rattle.numbers.proofs.Lengths.{length_small}
use Rattle.scrub_plan.proofs.Items.{sync_goes, sync_stays}
use Rattle.scrub_plan.proofs.plan_sync.Goals as goal

pub returns-then-inner-eq0-clause-plan : goal.returns-then-inner-eq0-clause-plan
returns-then-inner-eq0-clause-plan c = rw c.nothing.ensures (sync_goes _ _ c.if-inner-eq0.true)

pub overflow_cast-n : goal.overflow_cast-n
overflow_cast-n c = omega (arith, c.length_size-n.ensures, length_small (4 + c.args.inner))

pub overflow_add-result : goal.overflow_add-result
overflow_add-result c = omega (arith, c.length_size-n.ensures, length_small (4 + c.args.inner))

pub overflow_add-result-2 : goal.overflow_add-result-2
overflow_add-result-2 c = omega (arith, c.length_size-n.ensures, length_small (4 + c.args.inner))

pub returns-clause-plan : goal.returns-clause-plan
returns-clause-plan c = sync_stays _ _ _ c.if-inner-eq0.false c.length_size-n.ensures

pub returns-clause-small : goal.returns-clause-small
returns-clause-small c = omega (arith, c.length_size-n.ensures, length_small (4 + c.args.inner))
