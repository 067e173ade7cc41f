-- `pmd_write::put` meets its contract. Its loops keep what those of `weigh` keep, and that the pen has written the bits so far. Of a list that
-- was weighed each number is there, is taken and has room.
use Prim.Native.Nat.{◌-◌}
use lib.ListN.{length}
use Rattle.pmd.specs.Table.{nonzero}
use Rattle.pmd.proofs.Walk.{Records, Pieces, Fields}
use Rattle.pmd.proofs.Frame.{Frame}
use Rattle.pmd_write.proofs.Laid.{InShape}
use Rattle.pmd_write.proofs.Inked.{Inked}
use Rattle.pmd_write.proofs.put.Given as goal

abbrev pub invariant-fields : goal.invariant-fields
invariant-fields g l = record {
  walk : Fields (InShape (Inked l.pen l.out) (nonzero g.row.TURNAROUNDS) l.shape l.numbers l.n) (nonzero g.row.TURNAROUNDS) l.shape l.i l.piece l.initial.n l.n;
  frame : Frame l.initial.out l.initial.pen.at l.out l.pen.at;
}

abbrev pub decreases-fields : goal.decreases-fields
decreases-fields g l = length l.numbers - l.n

abbrev pub invariant-pieces : goal.invariant-pieces
invariant-pieces g l = record {
  walk : Pieces (InShape (Inked l.pen l.out) (nonzero g.row.TURNAROUNDS) l.shape l.numbers l.n) (nonzero g.row.TURNAROUNDS) l.shape l.initial.n l.initial.i l.n l.i;
  frame : Frame l.initial.out l.initial.pen.at l.out l.pen.at;
}

abbrev pub decreases-pieces : goal.decreases-pieces
decreases-pieces g l = l.shape.size - l.i

abbrev pub invariant-records : goal.invariant-records
invariant-records g l = record {
  walk : Records (InShape (Inked l.pen l.out) (nonzero g.row.TURNAROUNDS) l.shape l.numbers l.n) (nonzero g.row.TURNAROUNDS) l.shape l.i;
  frame : Frame l.initial.out l.initial.pen.at l.out l.pen.at;
}

abbrev pub decreases-records : goal.decreases-records
decreases-records g l = length l.numbers - l.n
