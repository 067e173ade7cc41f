-- `scrub_config::write_mappings` meets its contract. The loop keeps that what is left, written now, gives the whole.
use Rattle.scrub_config.proofs.Entries.{Left}
use Rattle.scrub_config.proofs.write_mappings.Given as goal

abbrev pub invariant-loop-mapping : goal.invariant-loop-mapping
invariant-loop-mapping l = Left l.p l.mappings l.initial.out l.at l.out l.mapping-index l.next
