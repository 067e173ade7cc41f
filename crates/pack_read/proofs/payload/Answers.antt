-- `pack_read::payload` meets its contract: by the name that the mappings tell.
use Rattle.pack_read.proofs.payload.Goals as goal

pub returns : goal.returns
returns c = rw c.name.ensures
