-- `Mappings::clashes` meets its contract: its tests are the parts of the definition, in their order.
use mathlib.Core.Path.{sym, ◌∙◌}
use borrow.Author.Tests.{le-leb, lt-leb}
use Rattle.pack.specs.Config.{clashes}
use Rattle.pack_config.proofs.table.Mappings.clashes.Goals as goal

pub has_label-requires : goal.has_label-requires
has_label-requires c = (c.requires.label, c.requires.lie)

pub returns-then-tag-le3 : goal.returns-then-tag-le3
unfolding clashes
returns-then-tag-le3 c = simp (le-leb _ _ c.if-tag-le3.true)

pub returns-then-is_utility : goal.returns-then-is_utility
unfolding clashes
returns-then-is_utility c = simp (lt-leb _ _ c.if-tag-le3.false, sym c.is_utility.ensures ∙ c.if-is_utility.true)

pub returns-then-has_tag : goal.returns-then-has_tag
unfolding clashes
returns-then-has_tag c =
    simp (lt-leb _ _ c.if-tag-le3.false, sym c.is_utility.ensures ∙ c.if-is_utility.false, sym c.has_tag.ensures ∙ c.if-has_tag.true)

pub returns-then-mark-eq0 : goal.returns-then-mark-eq0
unfolding clashes
returns-then-mark-eq0 c =
    simp (lt-leb _ _ c.if-tag-le3.false, sym c.is_utility.ensures ∙ c.if-is_utility.false, sym c.has_tag.ensures ∙ c.if-has_tag.false, c.requires.unmarked c.if-mark-eq0.true)

pub returns : goal.returns
unfolding clashes
returns c =
    simp (lt-leb _ _ c.if-tag-le3.false, sym c.is_utility.ensures ∙ c.if-is_utility.false, sym c.has_tag.ensures ∙ c.if-has_tag.false) c.has_label.ensures
