-- `pmd_read::fill` meets its contract. Its loops keep what those of `count` keep, and that the numbers found stand in the lent run. A value
-- that was counted has each field, and each is good.
use Prim.Native.Nat.{◌-◌, ◌*◌}
use lib.ListN.{length}
use Rattle.pmd.specs.Table.{nonzero}
use Rattle.pmd.proofs.Walk.{Records, Pieces, Fields}
use Rattle.pmd.proofs.Frame.{Frame}
use Rattle.pmd_read.proofs.Kept.{InShape}
use Rattle.pmd_read.proofs.Stored.{Stored}
use Rattle.pmd_read.proofs.fill.Given as goal

abbrev pub invariant-fields : goal.invariant-fields
invariant-fields g l = record {
  walk : Fields (InShape (Stored l.numbers l.n) (nonzero g.row.TURNAROUNDS) l.shape l.s l.at l.n) (nonzero g.row.TURNAROUNDS) l.shape l.i l.piece l.initial.at l.at;
  frame : Frame l.initial.numbers l.initial.n l.numbers l.n;
}

abbrev pub decreases-fields : goal.decreases-fields
decreases-fields g l = 8 * length l.s - l.at

abbrev pub invariant-pieces : goal.invariant-pieces
invariant-pieces g l = record {
  walk : Pieces (InShape (Stored l.numbers l.n) (nonzero g.row.TURNAROUNDS) l.shape l.s l.at l.n) (nonzero g.row.TURNAROUNDS) l.shape l.initial.at l.initial.i l.at l.i;
  frame : Frame l.initial.numbers l.initial.n l.numbers l.n;
}

abbrev pub decreases-pieces : goal.decreases-pieces
decreases-pieces g l = l.shape.size - l.i

abbrev pub invariant-records : goal.invariant-records
invariant-records g l = record {
  walk : Records (InShape (Stored l.numbers l.n) (nonzero g.row.TURNAROUNDS) l.shape l.s l.at l.n) (nonzero g.row.TURNAROUNDS) l.shape l.i;
  frame : Frame l.initial.numbers l.initial.n l.numbers l.n;
}

abbrev pub decreases-records : goal.decreases-records
decreases-records g l = 8 * length l.s - l.at
