use Rattle.vectors.proofs.Loops.{repeating_begins, repeating_on, repeating_full, repeating_ends}
use Rattle.vectors.proofs.repeated.Goals as goal

pub loop-init : goal.loop-init
loop-init c = repeating_begins _ _ _ _ c.requires

pub loop-preserved : goal.loop-preserved
loop-preserved c =
    repeating_on c.loop.invariant c.loop-test.true c.if-out-n.false c.copy-n.ensures

pub returns-then-out-n : goal.returns-then-out-n
returns-then-out-n c = repeating_full c.loop.invariant c.if-out-n.true

pub returns : goal.returns
returns c = repeating_ends c.loop.invariant c.loop-test.false
