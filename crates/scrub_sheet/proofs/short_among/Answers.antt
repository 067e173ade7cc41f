-- `scrub_sheet::short_among` meets its contract.
use Rattle.scrub_sheet.proofs.Short.{finding_begins, finding_short, finding_long, finding_ends}
use Rattle.scrub_sheet.proofs.short_among.Goals as goal
use Rattle.scrub_sheet.proofs.short_among.Goals.{then-n-lt128, else-n-lt128}

pub loop-k-init : goal.loop-k-init
loop-k-init c = finding_begins _ _ _

pub loop-k-preserved : goal.loop-k-preserved
loop-k-preserved c =
    elim c.if-n-lt128.branch [
      | then-n-lt128 w ↦ finding_short c.loop-k.invariant c.loop-k-test.true _ c.be32-n.ensures w.if-n-lt128.true _ w.found-is
      | else-n-lt128 w ↦ finding_long c.loop-k.invariant c.loop-k-test.true _ c.be32-n.ensures w.if-n-lt128.false _ w.found-is
    ]

pub returns : goal.returns
returns c = finding_ends c.loop-k.invariant c.loop-k-test.false
