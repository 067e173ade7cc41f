-- `pack_read::read_inside` meets its contract. The loop keeps what is left, and that the slots hold the payloads so far (proofs/Listing), for any fuel that
-- is enough.
use Rattle.std.specs.Prelude.{Err}
use mathlib.Core.Path.{◌≡◌, sym, ap, ◌∙◌}
use native.Mathlib.Omega.{arith}
use Rattle.pack.specs.Payloads.{inner_at, whole}
use Rattle.pack.proofs.Payloads.{Fits, inner_within}
use Rattle.pack_read.proofs.Listing.{filling_begins, filling_on, filling_ends, filling_stops}
use Rattle.pack_read.proofs.read_inside.Goals as goal
use Rattle.pack_read.proofs.read_inside.Goals.{In-Ok}

-- where an element is, it stands in the part
element : (c : In-Ok)
    → let x = c.in-Ok.element in inner_at c.args.q.now c.loop-at.at c.loop-at.n ≡ whole x.tag x.value.start x.value.len
element c = sym c.inner_at.ensures ∙ c.in-Ok.is

within : (c : In-Ok)
    → let x = c.in-Ok.element in Fits c.args.q.now c.loop-at.at c.loop-at.n x.value.start x.value.len
within c = inner_within _ _ _ _ _ _ (element c)

pub loop-at-init : goal.loop-at-init
loop-at-init c = λ fuel h. filling_begins _ _ _ _ _ _ c.requires.0 h

pub overflow_add-base : goal.overflow_add-base
overflow_add-base c = omega (arith, c.requires.1, c.loop-at-test.true)

pub returns-in-Err : goal.returns-in-Err
returns-in-Err c = filling_stops c.loop-at.invariant c.loop-at-test.true (sym c.inner_at.ensures ∙ c.in-Err.is) (ap Err c.at.ensures)

pub payload-requires : goal.payload-requires
payload-requires c = let w = within (goal.at.payload-requires c).In-Ok in omega (arith, w.later, w.inside, c.requires.1)

pub bounds-items-n : goal.bounds-items-n
bounds-items-n c = omega (arith, (within (goal.at.bounds-items-n c).In-Ok).room)

pub overflow_add-n : goal.overflow_add-n
overflow_add-n c = let w = within (goal.at.overflow_add-n c).In-Ok in omega (arith, w.room)

pub overflow_add-at : goal.overflow_add-at
overflow_add-at c = let w = within (goal.at.overflow_add-at c).In-Ok in omega (arith, w.inside, c.requires.1)

pub loop-at-smaller : goal.loop-at-smaller
loop-at-smaller c = let w = within (goal.at.loop-at-smaller c).In-Ok in omega (arith, w.later, w.inside, c.loop-at-test.true)

pub loop-at-preserved : goal.loop-at-preserved
loop-at-preserved c = λ fuel h. filling_on (c.loop-at.invariant fuel h) c.loop-at-test.true (element (goal.at.loop-at-preserved c).In-Ok) c.payload.ensures

pub returns : goal.returns
returns c = filling_ends c.loop-at.invariant c.loop-at-test.false
