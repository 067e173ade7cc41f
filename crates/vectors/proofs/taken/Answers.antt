use native.Mathlib.Omega.{arith}
use Rattle.vectors.proofs.Loops.{taking_begins, taking_on, taking_cut, taking_ends}
use Rattle.vectors.proofs.taken.Goals as goal

pub loop-n-init : goal.loop-n-init
loop-n-init c = (omega arith, taking_begins _ _)

pub loop-n-preserved : goal.loop-n-preserved
loop-n-preserved c =
    (omega arith, taking_on c.loop-n.invariant.1 _ (omega arith) c.if-s-at-lt4.false c.be32.ensures)

pub returns-then-s-at-lt4 : goal.returns-then-s-at-lt4
returns-then-s-at-lt4 c = taking_cut c.loop-n.invariant.1 c.if-s-at-lt4.true

pub returns : goal.returns
returns c = taking_ends c.loop-n.invariant.1 (omega arith)
