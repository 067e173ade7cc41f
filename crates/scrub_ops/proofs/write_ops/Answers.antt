-- `scrub_ops::write_ops` meets its contract. What was read is the write in its place, or that there is none.
use Rattle.std.specs.Prelude.{None}
use Rattle.scrub_ops.proofs.Ops.{left_none, left_room, left_step, left_ends}
use Rattle.scrub_ops.proofs.write_ops.Goals as goal
use Rattle.scrub_ops.proofs.write_ops.Goals.{in-Some, in_default}

pub write_op-next-requires : goal.write_op-next-requires
write_op-next-requires c = left_room c.loop-op.invariant None c.loop-op-test.true _ c.in-Some.is

pub loop-op-preserved : goal.loop-op-preserved
loop-op-preserved c =
    let g = c.loop-op.invariant in
    let h = c.loop-op-test.true in
    elim c.match-op.branch [
      | in-Some w ↦ rw (w.out-is, w.next-is) (left_step g None h _ w.in-Some.is w.write_op-next.ensures)
      | in_default w ↦ rw (w.out-is, w.next-is) (left_none g None h w.in_default.is)
    ]

pub returns : goal.returns
returns c = left_ends c.loop-op.invariant c.loop-op-test.false
