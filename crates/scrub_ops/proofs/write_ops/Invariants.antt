-- `scrub_ops::write_ops` meets its contract. The loop keeps that what is left, written now, gives the whole.
use Rattle.scrub_ops.proofs.Ops.{Left}
use Rattle.scrub_ops.proofs.write_ops.Given as goal

abbrev pub invariant-loop-op : goal.invariant-loop-op
invariant-loop-op l = Left l.p l.ops l.initial.out l.at l.out l.op-index l.next
