-- `numbers::read_length` meets its contract: one law for each way in which the first byte is judged.
use mathlib.Core.Path.{sym, ◌∙◌}
use borrow.Author.Tests.{le-ltb}
use native.Mathlib.Omega.{arith}
use Rattle.numbers.specs.Lengths.{length_at}
use Rattle.numbers.proofs.Lengths.{begins_short, begins_none, begins_far, begins_long, long_cut, long_whole}
use Rattle.numbers.proofs.read_length.Goals as goal

pub returns-then-s-at : goal.returns-then-s-at
unfolding length_at
returns-then-s-at c = simp (le-ltb _ _ c.if-s-at.true)

pub returns-then-first-lt128 : goal.returns-then-first-lt128
returns-then-first-lt128 c = sym (begins_short _ _ c.if-s-at.false c.if-first-lt128.true)

pub overflow_cast-count : goal.overflow_cast-count
overflow_cast-count c = omega (arith, c.type_inv.s c.args.at)

pub returns-then-count-eq0 : goal.returns-then-count-eq0
returns-then-count-eq0 c = sym (begins_none _ _ c.if-s-at.false (omega arith))

pub returns-then-count-gt-LONGEST : goal.returns-then-count-gt-LONGEST
returns-then-count-gt-LONGEST c = sym (begins_far _ _ c.if-s-at.false (omega arith))

pub returns-then-s-start : goal.returns-then-s-start
returns-then-s-start c =
    sym (begins_long _ _ c.if-s-at.false (omega arith) (omega arith) ∙ long_cut _ _ _ (omega arith))

pub returns : goal.returns
returns c =
    sym
    (begins_long _ _ c.if-s-at.false (omega arith) (omega arith)
    ∙ long_whole _ _ _ _ (omega arith) (sym c.read_big.ensures.0))
