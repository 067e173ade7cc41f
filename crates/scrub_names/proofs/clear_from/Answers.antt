-- `scrub_names::clear_from` meets its contract. The marks that were passed are not clear.
use mathlib.Core.Path.{◌≡◌, refl, sym, ◌∙◌}
use mathlib.Core.Logic.{⊎_elim}
use native.Mathlib.Omega.{arith}
use Rattle.runs.proofs.Cases.{lt_or_ge}
use Rattle.scrub_names.proofs.Naming.{clear_here, clear_next, clear_end}
use Rattle.scrub_names.proofs.clear_from.Goals as goal

pub loop-next-init : goal.loop-next-init
loop-next-init c = (refl, λ h. refl)

pub returns-then-not-taken-next-clause-place : goal.returns-then-not-taken-next-clause-place
returns-then-not-taken-next-clause-place c = clear_here _ _ c.loop-next-test.true c.if-not-taken-next.true ∙ c.loop-next.invariant.0

pub loop-next-preserved : goal.loop-next-preserved
loop-next-preserved c = (
  sym (clear_next _ _ c.loop-next-test.true c.if-not-taken-next.false) ∙ c.loop-next.invariant.0,
  λ h. absurd (omega (arith, c.loop-next.invariant.1 h)),
)

pub returns-clause-place : goal.returns-clause-place
returns-clause-place c =
    let h = c.loop-next-test.false in
    let e = c.max.ensures in
    let z : c.max.result ≡ c.loop-next.next =
    ⊎_elim
    (λ l. let n = c.loop-next.auto.next-end (omega arith) in omega arith)
    (λ l. let n = c.loop-next.invariant.1 l in omega arith)
    (lt_or_ge c.args.from 64) in
    z ∙ clear_end c.args.taken.now c.loop-next.next h ∙ c.loop-next.invariant.0
