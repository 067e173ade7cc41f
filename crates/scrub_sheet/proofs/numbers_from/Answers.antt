-- `scrub_sheet::numbers_from` meets its contract.
use Rattle.scrub_sheet.proofs.Numbers.{filling_begins, filling_step, filling_ends}
use Rattle.scrub_sheet.proofs.numbers_from.Goals as goal

pub loop-k-init : goal.loop-k-init
loop-k-init c = filling_begins _ _ _

pub loop-k-preserved : goal.loop-k-preserved
loop-k-preserved c = filling_step c.loop-k.invariant c.loop-k-test.true c.requires.1 _ c.be32.ensures

pub returns : goal.returns
returns c = filling_ends c.loop-k.invariant c.loop-k-test.false
