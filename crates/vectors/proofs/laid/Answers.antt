use native.Mathlib.Omega.{arith}
use Rattle.vectors.proofs.Loops.{laying_begins, laying_on, laying_full, laying_ends}
use Rattle.vectors.proofs.laid.Goals as goal

pub loop-n-init : goal.loop-n-init
loop-n-init c = laying_begins _ _

pub loop-n-preserved : goal.loop-n-preserved
loop-n-preserved c =
    laying_on c.loop-n.invariant c.loop-n-test.true (omega arith) c.write_be32-at.ensures

pub returns-then-out-at-lt4 : goal.returns-then-out-at-lt4
returns-then-out-at-lt4 c = laying_full c.loop-n.invariant c.if-out-at-lt4.true

pub returns : goal.returns
returns c = laying_ends c.loop-n.invariant c.loop-n-test.false
