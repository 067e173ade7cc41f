-- `pack::value_start` meets its contract: its tests are those of the definition.
use Rattle.std.specs.Prelude.{Err}
use mathlib.Core.Path.{◌≡◌, sym, ap, ◌∙◌}
use mathlib.Core.Bool.{true}
use lib.ListN.{take}
use borrow.Author.Tests.{lt-ltb, le-ltb}
use Rattle.runs.specs.Same.{same}
use Rattle.refusals.specs.Outcomes.{answered}
use Rattle.numbers.proofs.Lengths.{length_next}
use Rattle.pack.specs.Fixed.{key}
use Rattle.pack.specs.Reading.{value_start}
use Rattle.pack.proofs.value_start.Goals as goal
use Rattle.pack.proofs.value_start.Goals.{After-read_length}

-- past the test of the key, the key is there
keyed : (c : After-read_length) → same (take 16 c.args.pack.now) key ≡ true
unfolding key
keyed c = sym c.same_label.ensures ∙ c.if-not-same_label.false

pub returns-then-pack-gt-PACK_CAP : goal.returns-then-pack-gt-PACK_CAP
unfolding answered value_start
returns-then-pack-gt-PACK_CAP c = ap Err c.at.ensures ∙ simp (lt-ltb _ _ c.if-pack-gt-PACK_CAP.true)

pub returns-then-pack-lt16 : goal.returns-then-pack-lt16
unfolding answered value_start
returns-then-pack-lt16 c = ap Err c.at-then-pack-lt16.ensures ∙ simp (le-ltb _ _ c.if-pack-gt-PACK_CAP.false, lt-ltb _ _ c.if-pack-lt16.true)

pub returns-then-not-same_label : goal.returns-then-not-same_label
unfolding answered value_start key
returns-then-not-same_label c =
    ap Err c.at-then-not-same_label.ensures
    ∙ simp (le-ltb _ _ c.if-pack-gt-PACK_CAP.false, le-ltb _ _ c.if-pack-lt16.false, sym c.same_label.ensures ∙ c.if-not-same_label.true)

pub returns-in-Err-Form : goal.returns-in-Err-Form
unfolding answered value_start
returns-in-Err-Form c =
    ap Err c.at-in-Err-Form.ensures
    ∙ simp (le-ltb _ _ c.if-pack-gt-PACK_CAP.false, le-ltb _ _ c.if-pack-lt16.false, keyed (goal.at.returns-in-Err-Form c).After-read_length, sym c.read_length.ensures, c.in-Err-Form.is ∙ ap Err c.in-Err-Form.field-0-is)

pub returns-in-Err-Cut : goal.returns-in-Err-Cut
unfolding answered value_start
returns-in-Err-Cut c =
    ap Err c.at-in-Err-Cut.ensures
    ∙ simp (le-ltb _ _ c.if-pack-gt-PACK_CAP.false, le-ltb _ _ c.if-pack-lt16.false, keyed (goal.at.returns-in-Err-Cut c).After-read_length, sym c.read_length.ensures, c.in-Err-Cut.is ∙ ap Err c.in-Err-Cut.field-0-is)

pub overflow_sub-left : goal.overflow_sub-left
overflow_sub-left c = (length_next _ _ _ _ (sym c.read_length.ensures ∙ c.in-Ok.is)).1

pub returns-then-left-len : goal.returns-then-left-len
unfolding answered value_start
returns-then-left-len c =
    ap Err c.at-then-left-len.ensures
    ∙ simp (le-ltb _ _ c.if-pack-gt-PACK_CAP.false, le-ltb _ _ c.if-pack-lt16.false, keyed (goal.at.returns-then-left-len c).After-read_length, sym c.read_length.ensures, c.in-Ok.is, lt-ltb _ _ c.if-left-len.true)

pub returns-then-len-left : goal.returns-then-len-left
unfolding answered value_start
returns-then-len-left c =
    ap Err c.at-then-len-left.ensures
    ∙ simp (le-ltb _ _ c.if-pack-gt-PACK_CAP.false, le-ltb _ _ c.if-pack-lt16.false, keyed (goal.at.returns-then-len-left c).After-read_length, sym c.read_length.ensures, c.in-Ok.is, le-ltb _ _ c.if-left-len.false, lt-ltb _ _ c.if-len-left.true)

pub returns : goal.returns
unfolding answered value_start
returns c =
    simp (le-ltb _ _ c.if-pack-gt-PACK_CAP.false, le-ltb _ _ c.if-pack-lt16.false, keyed (goal.at.returns c).After-read_length, sym c.read_length.ensures, c.in-Ok.is, le-ltb _ _ c.if-left-len.false, le-ltb _ _ c.if-len-left.false)
