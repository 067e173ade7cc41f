-- `scrub_sheet::all_good` meets its contract.
use mathlib.Core.Path.{sym, ◌∙◌}
use borrow.Author.Tests.{le-leb, lt-leb}
use Rattle.scrub_sheet.proofs.Runs.{number_small, number_large}
use Rattle.scrub_sheet.proofs.Numbers.{judging_begins, judging_ends, others_marked, this_low, this_high, this_again, judging_step}
use Rattle.scrub_sheet.proofs.all_good.Goals as goal

pub loop-k-init : goal.loop-k-init
loop-k-init c = judging_begins _

pub returns-then-n-lt4 : goal.returns-then-n-lt4
returns-then-n-lt4 c = this_low c.loop-k.invariant c.loop-k-test.true c.loop-k.auto.k (lt-leb 4 _ c.if-n-lt4.true)

pub returns-then-n-gt268435455 : goal.returns-then-n-gt268435455
returns-then-n-gt268435455 c = this_high c.loop-k.invariant c.loop-k-test.true c.loop-k.auto.k (le-leb 4 _ c.if-n-lt4.false) (number_large _ c.if-n-gt268435455.true)

pub repeats-requires : goal.repeats-requires
repeats-requires c = others_marked c.loop-k.invariant c.loop-k-test.true c.loop-k.auto.k

pub returns-then-repeats : goal.returns-then-repeats
returns-then-repeats c =
    this_again c.loop-k.invariant c.loop-k-test.true c.loop-k.auto.k (le-leb 4 _ c.if-n-lt4.false) (number_small _ c.if-n-gt268435455.false)
    (sym c.repeats.ensures ∙ c.if-repeats.true)

pub loop-k-preserved : goal.loop-k-preserved
loop-k-preserved c =
    judging_step c.loop-k.invariant c.loop-k-test.true c.loop-k.auto.k (le-leb 4 _ c.if-n-lt4.false) (number_small _ c.if-n-gt268435455.false)
    (sym c.repeats.ensures ∙ c.if-repeats.false)

pub returns : goal.returns
returns c = judging_ends c.loop-k.invariant c.loop-k-test.false
