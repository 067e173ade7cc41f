-- `scrub_sheet::labels_good` meets its contract.
use mathlib.Core.Path.{◌≡◌, refl, sym, ◌∙◌}
use Prim.Native.Nat.{◌-◌}
use native.Mathlib.Omega.{arith}
use Rattle.scrub_kept.specs.Sheet.{labels_at, labels_good}
use Rattle.scrub_sheet.proofs.Runs.{label_judged}
use Rattle.scrub_sheet.proofs.labels_good.Goals as goal

pub returns-then-is_utility : goal.returns-then-is_utility
returns-then-is_utility c = sym (label_judged _ _ _ _ c.loop-k-test.true (sym c.is_utility.ensures ∙ c.if-is_utility.true) refl) ∙ c.loop-k.invariant

pub returns-then-has_label : goal.returns-then-has_label
returns-then-has_label c =
    sym (label_judged _ _ _ _ c.loop-k-test.true (sym c.is_utility.ensures ∙ c.if-is_utility.false) (sym c.has_label.ensures ∙ c.if-has_label.true)) ∙ c.loop-k.invariant

pub loop-k-preserved : goal.loop-k-preserved
loop-k-preserved c =
    sym (label_judged _ _ _ _ c.loop-k-test.true (sym c.is_utility.ensures ∙ c.if-is_utility.false) (sym c.has_label.ensures ∙ c.if-has_label.false)) ∙ c.loop-k.invariant

pub returns : goal.returns
unfolding labels_at labels_good
returns c = let z : c.args.count - c.loop-k.k ≡ 0 = omega arith in rw z at c.loop-k.invariant
