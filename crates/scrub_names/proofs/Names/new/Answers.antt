-- `scrub_names::Names::new` meets its contract.
use Rattle.scrub_names.proofs.Noting.{none_noted}
use Rattle.scrub_names.proofs.Names.new.Goals as goal

pub returns : goal.returns
returns c = none_noted
