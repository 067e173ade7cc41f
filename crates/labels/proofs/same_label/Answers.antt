-- `labels::same_label` meets its contract: the second halves differ, or the first halves tell.
use Rattle.labels.proofs.Words.{labels_differ, labels_told}
use Rattle.labels.proofs.same_label.Goals as goal

pub returns-then-word : goal.returns-then-word
returns-then-word c =
    labels_told c.args.s.now c.args.t.now c.args.a c.args.b _ _ c.requires c.word.ensures c.word-2.ensures _ _
    (λ i. (c.type_inv.s i).fits) (λ i. (c.type_inv.t i).fits) c.if-word.true c.word-then-word.ensures c.word-then-word-2.ensures

pub returns-else-word : goal.returns-else-word
returns-else-word c =
    labels_differ c.args.s.now c.args.t.now c.args.a c.args.b _ _ c.requires c.word.ensures c.word-2.ensures c.if-word.false
