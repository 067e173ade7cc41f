-- `scrub_names::flags` meets its contract.
use Rattle.scrub_names.proofs.Padded.{filling_step}
use Rattle.scrub_names.proofs.flags.Goals as goal

pub loop-i-preserved : goal.loop-i-preserved
loop-i-preserved c = filling_step _ _ _ _ _ _ _ _ c.loop-i.invariant c.loop-i-test.true c.requires.0 c.keeps_label.ensures
