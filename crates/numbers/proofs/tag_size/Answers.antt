-- `numbers::tag_size` meets its contract: its tests are those of the definition.
use borrow.Author.Tests.{lt-ltb, le-ltb}
use Rattle.numbers.specs.Tags.{tag_size}
use Rattle.numbers.proofs.tag_size.Goals as goal

pub returns-then-t-lt128 : goal.returns-then-t-lt128
unfolding tag_size
returns-then-t-lt128 c = simp (lt-ltb _ _ c.if-t-lt128.true)

pub returns-then-t-lt16384 : goal.returns-then-t-lt16384
unfolding tag_size
returns-then-t-lt16384 c = simp (le-ltb _ _ c.if-t-lt128.false, lt-ltb _ _ c.if-t-lt16384.true)

pub returns-then-t-lt2097152 : goal.returns-then-t-lt2097152
unfolding tag_size
returns-then-t-lt2097152 c = simp (le-ltb _ _ c.if-t-lt128.false, le-ltb _ _ c.if-t-lt16384.false, lt-ltb _ _ c.if-t-lt2097152.true)

pub returns : goal.returns
unfolding tag_size
returns c = simp (le-ltb _ _ c.if-t-lt128.false, le-ltb _ _ c.if-t-lt16384.false, le-ltb _ _ c.if-t-lt2097152.false)
