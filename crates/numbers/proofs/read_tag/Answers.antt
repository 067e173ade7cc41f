-- `numbers::read_tag` meets its contract: one law for each way in which the first byte is judged.
use mathlib.Core.Path.{sym, ◌∙◌}
use borrow.Author.Tests.{le-ltb, lt-ltb, eq-eqb, ne_eqb}
use Rattle.numbers.specs.Tags.{tag_at}
use Rattle.numbers.proofs.Tags.{begins, one_byte}
use Rattle.numbers.proofs.read_tag.Goals as goal

pub returns-then-s-at : goal.returns-then-s-at
unfolding tag_at
returns-then-s-at c = simp (le-ltb _ _ c.if-s-at.true)

pub returns-then-first-eq0 : goal.returns-then-first-eq0
unfolding tag_at
returns-then-first-eq0 c = simp (lt-ltb _ _ c.if-s-at.false, eq-eqb _ _ c.if-first-eq0.true)

pub returns-then-first-lt128 : goal.returns-then-first-lt128
returns-then-first-lt128 c = sym (one_byte _ _ c.if-s-at.false c.if-first-eq0.false c.if-first-lt128.true)

pub returns-then-first : goal.returns-then-first
unfolding tag_at
returns-then-first c =
    simp (lt-ltb _ _ c.if-s-at.false, ne_eqb _ _ c.if-first-eq0.false, eq-eqb _ _ c.if-first.true)

pub returns : goal.returns
returns c =
    c.tag_groups.ensures ∙ sym (begins _ _ c.if-s-at.false c.if-first-eq0.false c.if-first.false)
