-- `pack_check::count_inside` meets its contract. The loop keeps what is left (crates/pack/proofs/Inside.antt), for any ground and any fuel that is enough.
use Rattle.std.specs.Prelude.{Err}
use mathlib.Core.Path.{sym, ap, ◌∙◌}
use mathlib.Core.List.{[]}
use native.Mathlib.Omega.{arith}
use Rattle.pack.proofs.Payloads.{inner_within}
use Rattle.pack.proofs.Inside.{inside_begins, inside_on, inside_done, inside_refused}
use Rattle.pack_check.proofs.count_inside.Goals as goal

pub loop-at-init : goal.loop-at-init
loop-at-init c = λ grounds k h. record { xs = []; inside = inside_begins _ grounds _ k _ c.requires.0 h }

pub overflow_add-base : goal.overflow_add-base
overflow_add-base c = omega (arith, c.requires.1, c.loop-at-test.true)

pub returns-in-Err : goal.returns-in-Err
returns-in-Err c = λ grounds. inside_refused (c.loop-at.invariant grounds) c.loop-at-test.true (sym c.inner_at.ensures ∙ c.in-Err.is) (ap Err c.at.ensures)

pub overflow_add-n : goal.overflow_add-n
overflow_add-n c = let w = inner_within _ _ _ _ _ _ (sym c.inner_at.ensures ∙ c.in-Ok.is) in omega (arith, w.room)

pub overflow_add-at : goal.overflow_add-at
overflow_add-at c = let w = inner_within _ _ _ _ _ _ (sym c.inner_at.ensures ∙ c.in-Ok.is) in omega (arith, w.inside, c.requires.1)

pub loop-at-smaller : goal.loop-at-smaller
loop-at-smaller c = let w = inner_within _ _ _ _ _ _ (sym c.inner_at.ensures ∙ c.in-Ok.is) in omega (arith, w.later, w.inside, c.loop-at-test.true)

pub loop-at-preserved : goal.loop-at-preserved
loop-at-preserved c =
    λ grounds k h. record { xs = _; inside = inside_on (c.loop-at.invariant grounds k h).inside c.loop-at-test.true (sym c.inner_at.ensures ∙ c.in-Ok.is) }

pub returns : goal.returns
returns c = λ grounds. inside_done (c.loop-at.invariant grounds) c.loop-at-test.false
