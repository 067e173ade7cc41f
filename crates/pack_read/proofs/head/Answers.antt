-- `pack_read::head` meets its contract: by the number that stands there and the one that was read before.
use Rattle.pack_read.proofs.head.Goals as goal

pub returns : goal.returns
returns c = rw (c.requires.3, c.be16.ensures)
