-- `scrub_sheet::has_number` meets its contract.
use mathlib.Core.Path.{◌≡◌, sym, ◌∙◌}
use borrow.Author.Tests.{eq-eqb, ne_eqb}
use Prim.Native.Nat.{◌-◌}
use native.Mathlib.Omega.{arith}
use Rattle.runs.specs.Same.{among}
use Rattle.scrub_kept.specs.Sheet.{numbers_at}
use Rattle.scrub_sheet.proofs.Runs.{number_sought}
use Rattle.scrub_sheet.proofs.has_number.Goals as goal

pub returns-then-be32-n : goal.returns-then-be32-n
returns-then-be32-n c = sym (number_sought _ _ _ _ c.loop-k-test.true _ (eq-eqb _ _ (sym c.be32.ensures ∙ c.if-be32-n.true))) ∙ c.loop-k.invariant

pub loop-k-preserved : goal.loop-k-preserved
loop-k-preserved c = sym (number_sought _ _ _ _ c.loop-k-test.true _ (ne_eqb _ _ (λ e. c.if-be32-n.false (c.be32.ensures ∙ e)))) ∙ c.loop-k.invariant

pub returns : goal.returns
unfolding numbers_at among
returns c = let z : c.args.count - c.loop-k.k ≡ 0 = omega arith in rw z at c.loop-k.invariant
