-- `scrub_sheet::is_among` meets its contract.
use mathlib.Core.Path.{refl, sym, ap, ◌∙◌}
use borrow.Author.Tests.{eq-eqb, ne_eqb}
use lib.ListN.{drop_of_length-le}
use Rattle.runs.specs.Same.{among}
use Rattle.scrub_sheet.proofs.Numbers.{number_met}
use Rattle.scrub_sheet.proofs.is_among.Goals as goal

pub loop-other-init : goal.loop-other-init
loop-other-init c = refl

pub returns-then-other-n : goal.returns-then-other-n
returns-then-other-n c = sym (number_met _ _ c.loop-other-test.true _ (eq-eqb _ _ c.if-other-n.true)) ∙ c.loop-other.invariant

pub loop-other-preserved : goal.loop-other-preserved
loop-other-preserved c = sym (number_met _ _ c.loop-other-test.true _ (ne_eqb _ _ c.if-other-n.false)) ∙ c.loop-other.invariant

pub returns : goal.returns
unfolding among
returns c = sym (ap (among c.args.n) (drop_of_length-le c.args.others.now c.loop-other-test.false)) ∙ c.loop-other.invariant
