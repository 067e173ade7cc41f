-- `vectors::joined` meets its contract. The loop keeps what is still to be put.
use mathlib.Core.Path.{◌∙◌}
use native.Mathlib.Omega.{arith}
use Rattle.vectors.proofs.Loops.{joining_begins, joining_on, joining_cut, joining_ends}
use Rattle.vectors.proofs.joined.Goals as goal

pub loop-at-preserved : goal.loop-at-preserved
loop-at-preserved c =
    (omega arith, joining_on c.loop-at.invariant.1 c.loop-at-test.true (c.from-times.ensures ∙ c.be16.ensures) (c.from-size.ensures ∙ c.be16-in-loop-at.ensures) c.if-parts-begin.false c.repeated-n.ensures.1)

pub returns-then-parts-begin : goal.returns-then-parts-begin
returns-then-parts-begin c =
    joining_cut c.loop-at.invariant.1 c.loop-at-test.true (omega (arith, c.if-parts-begin.true, c.from-size.ensures, c.be16-in-loop-at.ensures))

pub loop-at-init : goal.loop-at-init
loop-at-init c = (omega arith, joining_begins _ _)

pub shape_of-out-then-parts-begin : goal.shape_of-out-then-parts-begin
shape_of-out-then-parts-begin c = c.loop-at.invariant.1.filling.writing.same

pub repeated-n-requires : goal.repeated-n-requires
repeated-n-requires c = c.loop-at.invariant.1.filling.inside

pub shape_of-out : goal.shape_of-out
shape_of-out c = c.loop-at.invariant.1.filling.writing.same

pub returns : goal.returns
returns c = joining_ends c.loop-at.invariant.1 (omega arith)
