-- `pack::is_utility` meets its contract. The loop keeps what is left: the label is among the rows not yet passed just if it is among all.
use mathlib.Core.Path.{refl, ◌∙◌}
use mathlib.Core.Bool.{true, false}
use native.Mathlib.Omega.{arith}
use Rattle.pack.specs.Fixed.{utility_labels}
use Rattle.pack.proofs.Labels.{listed_hit, listed_miss, listed_none, row_long, row_same, table_long}
use Rattle.pack.proofs.is_utility.Goals as goal

pub loop-row-init : goal.loop-row-init
loop-row-init c = refl

pub same_label-requires : goal.same_label-requires
unfolding utility_labels
same_label-requires c = (omega (arith, row_long c.loop-row.row-index c.loop-row-test.true), omega arith)

pub returns-then-same_label : goal.returns-then-same_label
unfolding utility_labels
returns-then-same_label c =
    let l = c.loop-row in
    let t = c.loop-row-test.true in
    listed_hit _ utility_labels l.row-index (omega (arith, table_long)) (row_same l.row-index _ _ true t c.same_label.ensures c.if-same_label.true) ∙ l.invariant

pub loop-row-preserved : goal.loop-row-preserved
unfolding utility_labels
loop-row-preserved c =
    let l = c.loop-row in
    let t = c.loop-row-test.true in
    listed_miss _ utility_labels l.row-index (omega (arith, table_long)) (row_same l.row-index _ _ false t c.same_label.ensures c.if-same_label.false) ∙ l.invariant

pub returns : goal.returns
returns c = listed_none _ utility_labels c.loop-row.row-index (omega (arith, table_long)) ∙ c.loop-row.invariant
