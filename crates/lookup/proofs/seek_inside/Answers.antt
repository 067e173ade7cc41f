-- `lookup::seek_inside` meets its contract. The loop keeps what is left and what was found, for any tags and any fuel that is enough.
use mathlib.Core.Path.{refl, sym, ap, ◌∙◌}
use native.Mathlib.Omega.{arith}
use Rattle.std.specs.Prelude.{Err}
use Rattle.pack.proofs.Payloads.{inner_within, inner_other}
use Rattle.lookup.proofs.Steps.{or_none, or_tag, tag_same, tag_other}
use Rattle.lookup.proofs.Seeking.{seek_begins, seek_on, seek_done, seek_stops}
use Rattle.lookup.proofs.seek_inside.Goals as goal
use Rattle.lookup.proofs.seek_inside.Goals.{then-tag-sought, else-tag-sought}

pub loop-at-init : goal.loop-at-init
loop-at-init c = λ tags test tells. seek_begins c.requires.0 refl

pub overflow_add-base : goal.overflow_add-base
overflow_add-base c = omega (arith, c.requires.1, c.loop-at-test.true)

pub returns-in-Err : goal.returns-in-Err
returns-in-Err c =
    λ tags test tells. seek_stops (c.loop-at.invariant tags test tells) c.loop-at-test.true (sym c.inner_at.ensures ∙ c.in-Err.is) (ap Err c.at.ensures)

pub or_spot-first-requires : goal.or_spot-first-requires
or_spot-first-requires c = let w = inner_within _ _ _ _ _ _ (sym c.inner_at.ensures ∙ c.in-Ok.is) in omega (arith, w.inside, c.requires.1)

pub overflow_add-count : goal.overflow_add-count
overflow_add-count c = let w = inner_within _ _ _ _ _ _ (sym c.inner_at.ensures ∙ c.in-Ok.is) in omega (arith, w.room)

pub overflow_add-at : goal.overflow_add-at
overflow_add-at c = let w = inner_within _ _ _ _ _ _ (sym c.inner_at.ensures ∙ c.in-Ok.is) in omega (arith, w.inside, c.requires.1)

pub loop-at-smaller : goal.loop-at-smaller
loop-at-smaller c = let w = inner_within _ _ _ _ _ _ (sym c.inner_at.ensures ∙ c.in-Ok.is) in omega (arith, w.later, w.inside, c.loop-at-test.true)

pub loop-at-preserved : goal.loop-at-preserved
loop-at-preserved c =
    let there = sym c.inner_at.ensures ∙ c.in-Ok.is in
    λ tags test tells.
    seek_on (c.loop-at.invariant tags test tells) _ tells c.loop-at-test.true there
    (elim c.if-tag-sought.branch [
      | then-tag-sought w ↦
          or_tag _ _ _ _ _ (tag_same _ _ (inner_other _ _ _ _ _ _ there) (w.if-tag-sought.true ∙ c.unwrap_or-sought.ensures)) _ (w.first-is ∙ w.or_spot-first.ensures)
      | else-tag-sought w ↦ or_tag _ _ _ _ _ (tag_other _ _ (λ e. w.if-tag-sought.false (e ∙ sym c.unwrap_or-sought.ensures))) _ (w.first-is ∙ or_none _)
    ])

pub returns : goal.returns
returns c = λ tags test tells. seek_done (c.loop-at.invariant tags test tells) c.loop-at-test.false
