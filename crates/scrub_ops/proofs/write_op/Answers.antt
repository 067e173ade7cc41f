-- `scrub_ops::write_op` meets its contract. By cases on the write.
use Rattle.scrub_ops.specs.Ops.{op_bytes}
use Rattle.scrub_ops.proofs.Ops.{op_asks, op_gives}
use Rattle.scrub_ops.proofs.write_op.Goals as goal

pub write_open-requires : goal.write_open-requires
unfolding op_bytes
write_open-requires c = op_asks _ _ _ _ c.in-Open.is c.requires.0 c.requires.1

pub returns-in-Open : goal.returns-in-Open
unfolding op_bytes
returns-in-Open c = op_gives _ _ _ _ c.in-Open.is c.write_open.ensures
