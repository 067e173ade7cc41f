-- `scrub_config::write_mappings` meets its contract.
use Rattle.scrub_config.proofs.Entries.{left_begins, left_asks, left_step, left_ends}
use Rattle.scrub_config.proofs.write_mappings.Goals as goal

pub loop-mapping-init : goal.loop-mapping-init
loop-mapping-init c = left_begins _ _ _ _ c.requires.0 c.requires.1

pub write_mapping-next-requires : goal.write_mapping-next-requires
write_mapping-next-requires c = left_asks c.loop-mapping.invariant _ c.loop-mapping-test.true

pub loop-mapping-preserved : goal.loop-mapping-preserved
loop-mapping-preserved c = left_step c.loop-mapping.invariant _ c.loop-mapping-test.true c.write_mapping-next.ensures

pub returns : goal.returns
returns c = left_ends c.loop-mapping.invariant c.loop-mapping-test.false
