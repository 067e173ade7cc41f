-- `pmd_write::weigh` meets its contract. Its loops keep that the bits so far, before those that are written from here on, are all, and that
-- the total is their weight.
use Prim.Native.Nat.{◌-◌}
use lib.ListN.{length}
use Rattle.pmd.specs.Table.{nonzero}
use Rattle.pmd.proofs.Walk.{Records, Pieces, Fields}
use Rattle.pmd_write.proofs.Laid.{InShape, Weighs}
use Rattle.pmd_write.proofs.weigh.Given as goal

abbrev pub invariant-fields : goal.invariant-fields
invariant-fields g l =
    Fields (InShape (Weighs l.numbers l.total l.n) (nonzero g.row.TURNAROUNDS) l.shape l.numbers l.n) (nonzero g.row.TURNAROUNDS) l.shape l.i l.piece l.initial.n l.n

abbrev pub decreases-fields : goal.decreases-fields
decreases-fields g l = length l.numbers - l.n

abbrev pub invariant-pieces : goal.invariant-pieces
invariant-pieces g l =
    Pieces (InShape (Weighs l.numbers l.total l.n) (nonzero g.row.TURNAROUNDS) l.shape l.numbers l.n) (nonzero g.row.TURNAROUNDS) l.shape l.initial.n l.initial.i l.n l.i

abbrev pub decreases-pieces : goal.decreases-pieces
decreases-pieces g l = l.shape.size - l.i

abbrev pub invariant-records : goal.invariant-records
invariant-records g l = Records (InShape (Weighs l.numbers l.total l.n) (nonzero g.row.TURNAROUNDS) l.shape l.numbers l.n) (nonzero g.row.TURNAROUNDS) l.shape l.i

abbrev pub decreases-records : goal.decreases-records
decreases-records g l = length l.numbers - l.n
