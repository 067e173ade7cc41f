-- `pmd_read::count` meets its contract. Its loops keep that the numbers found so far, before what is read from here on, are the whole reading.
use Prim.Native.Nat.{◌-◌, ◌*◌}
use lib.ListN.{length}
use Rattle.pmd.specs.Table.{nonzero}
use Rattle.pmd.proofs.Walk.{Records, Pieces, Fields}
use Rattle.pmd_read.proofs.Kept.{Any, InShape}
use Rattle.pmd_read.proofs.count.Given as goal

abbrev pub invariant-fields : goal.invariant-fields
invariant-fields g l = Fields (InShape Any (nonzero g.row.TURNAROUNDS) l.shape l.s l.at l.n) (nonzero g.row.TURNAROUNDS) l.shape l.i l.piece l.initial.at l.at

abbrev pub decreases-fields : goal.decreases-fields
decreases-fields g l = 8 * length l.s - l.at

abbrev pub invariant-pieces : goal.invariant-pieces
invariant-pieces g l = Pieces (InShape Any (nonzero g.row.TURNAROUNDS) l.shape l.s l.at l.n) (nonzero g.row.TURNAROUNDS) l.shape l.initial.at l.initial.i l.at l.i

abbrev pub decreases-pieces : goal.decreases-pieces
decreases-pieces g l = l.shape.size - l.i

abbrev pub invariant-records : goal.invariant-records
invariant-records g l = Records (InShape Any (nonzero g.row.TURNAROUNDS) l.shape l.s l.at l.n) (nonzero g.row.TURNAROUNDS) l.shape l.i

abbrev pub decreases-records : goal.decreases-records
decreases-records g l = 8 * length l.s - l.at
