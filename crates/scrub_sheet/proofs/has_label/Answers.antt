-- `scrub_sheet::has_label` meets its contract.
use mathlib.Core.Path.{◌≡◌, sym, ◌∙◌}
use Prim.Native.Nat.{◌-◌}
use native.Mathlib.Omega.{arith}
use Rattle.runs.specs.Same.{listed}
use Rattle.scrub_kept.specs.Sheet.{labels_at}
use Rattle.scrub_sheet.proofs.Runs.{label_sought}
use Rattle.scrub_sheet.proofs.has_label.Goals as goal

pub returns-then-same_label : goal.returns-then-same_label
returns-then-same_label c = sym (label_sought _ _ _ _ c.loop-k-test.true _ (sym c.same_label.ensures ∙ c.if-same_label.true)) ∙ c.loop-k.invariant

pub loop-k-preserved : goal.loop-k-preserved
loop-k-preserved c = sym (label_sought _ _ _ _ c.loop-k-test.true _ (sym c.same_label.ensures ∙ c.if-same_label.false)) ∙ c.loop-k.invariant

pub returns : goal.returns
unfolding labels_at listed
returns c = let z : c.args.count - c.loop-k.k ≡ 0 = omega arith in rw z at c.loop-k.invariant
