-- `pack_item::judge` meets its contract: its tests are those of the definition.
use borrow.Author.Tests.{lt-ltb, le-ltb, lt-leb, le-leb, eq-eqb, ne_eqb}
use Rattle.pack.specs.Items.{judged}
use Rattle.pack_item.proofs.judge.Goals as goal

pub returns-then-tag-eq1 : goal.returns-then-tag-eq1
unfolding judged
returns-then-tag-eq1 c = simp (eq-eqb _ _ c.if-tag-eq1.true)

pub returns-then-value-s : goal.returns-then-value-s
unfolding judged
returns-then-value-s c = simp (ne_eqb _ _ c.if-tag-eq1.false, eq-eqb _ _ c.if-tag-eq3.true, ne_eqb _ _ c.if-value-s.true)

pub returns-then-value-ne4 : goal.returns-then-value-ne4
unfolding judged
returns-then-value-ne4 c = simp (ne_eqb _ _ c.if-tag-eq1.false, eq-eqb _ _ c.if-tag-eq3.true, eq-eqb _ _ c.if-value-s.false, ne_eqb _ _ c.if-value-ne4.true)

pub returns-then-tag-eq3 : goal.returns-then-tag-eq3
unfolding judged
returns-then-tag-eq3 c = simp (ne_eqb _ _ c.if-tag-eq1.false, eq-eqb _ _ c.if-tag-eq3.true, eq-eqb _ _ c.if-value-s.false, eq-eqb _ _ c.if-value-ne4.false)

pub returns-then-used-ge-ITEM_CAP : goal.returns-then-used-ge-ITEM_CAP
unfolding judged
returns-then-used-ge-ITEM_CAP c = simp (ne_eqb _ _ c.if-tag-eq1.false, ne_eqb _ _ c.if-tag-eq3.false, le-leb _ _ c.if-used-ge-ITEM_CAP.true)

pub returns-then-value-lt4 : goal.returns-then-value-lt4
unfolding judged
returns-then-value-lt4 c = simp (ne_eqb _ _ c.if-tag-eq1.false, ne_eqb _ _ c.if-tag-eq3.false, lt-leb _ _ c.if-used-ge-ITEM_CAP.false, eq-eqb _ _ c.if-tag-eq2.true, lt-ltb _ _ c.if-value-lt4.true)

pub returns-then-tag-eq2 : goal.returns-then-tag-eq2
unfolding judged
returns-then-tag-eq2 c = simp (ne_eqb _ _ c.if-tag-eq1.false, ne_eqb _ _ c.if-tag-eq3.false, lt-leb _ _ c.if-used-ge-ITEM_CAP.false, eq-eqb _ _ c.if-tag-eq2.true, le-ltb _ _ c.if-value-lt4.false)

pub returns : goal.returns
unfolding judged
returns c = simp (ne_eqb _ _ c.if-tag-eq1.false, ne_eqb _ _ c.if-tag-eq3.false, lt-leb _ _ c.if-used-ge-ITEM_CAP.false, ne_eqb _ _ c.if-tag-eq2.false)
