-- No slot that the search has passed is free.
use mathlib.Core.Path.{◌≡◌, refl, sym, ap, ◌∙◌}
use mathlib.Core.Bool.{Bool}
use Prim.Native.Nat.{◌<◌, ◌≤◌}
use native.Mathlib.Omega.{arith}
use lib.ListN.{length, get_or}
use Rattle.objects.specs.Entries.{blank, free}
use Rattle.objects_apply.specs.Held.{held}
use Rattle.objects_apply.proofs.Places.{sought_here, sought_on, sought_none, place_there}
use Rattle.objects_apply.proofs.Seats.{free_there, free_none}
use Rattle.objects_apply.proofs.Stores.{held_length, held_at}
use Rattle.objects_apply.proofs.table.Table.free_slot.Goals as goal
use Rattle.objects_apply.proofs.table.Table.free_slot.Goals.{After-is_free}

-- a slot that the search comes to
within : (c : After-is_free) → c.loop-at.at < length (held c.args.self.now)
within c = let l = held_length c.args.self.now in omega (arith, c.loop-at-test.true)

entry : (c : After-is_free) → free (get_or (held c.args.self.now) c.loop-at.at blank) ≡ c.is_free.result
entry c =
    ap free (held_at c.args.self.now c.loop-at.at c.loop-at-test.true ∙ sym (ap (λ t. get_or t.entries c.loop-at.at blank) c.loop-at.invariant.0))
    ∙ sym c.is_free.ensures

pub loop-at-preserved : goal.loop-at-preserved
loop-at-preserved c =
    let a = (goal.at.loop-at-preserved c).After-is_free in
    (c.loop-at.invariant.0, sought_on free blank _ _ c.loop-at.invariant.1 (within a) (entry a ∙ c.if-is_free.false))

pub invariant_of-self : goal.invariant_of-self
invariant_of-self c =
    let t = c.loop-at.self in
    record {
      wide = t.wide;
      few = t.few;
      noted = t.noted;
      none_free = rw c.loop-at.invariant.0 c.loop-at.invariant.1;
    }

pub returns-then-is_free-clause-found : goal.returns-then-is_free-clause-found
returns-then-is_free-clause-found c =
    let a = (goal.at.returns-then-is_free-clause-found c).After-is_free in
    let w = within a in
    let p = sought_here free blank _ _ c.loop-at.invariant.1 w (entry a ∙ c.if-is_free.true) in
    free_there _ p w (place_there free _ (omega arith))

pub returns-then-is_free-clause-kept : goal.returns-then-is_free-clause-kept
returns-then-is_free-clause-kept c = ap held c.loop-at.invariant.0

pub returns-clause-found : goal.returns-clause-found
returns-clause-found c =
    let t = c.args.self.now in
    let l = held_length t in
    free_none _ (sought_none free blank (held t) c.loop-at.at c.loop-at.invariant.1 (omega arith))

pub returns-clause-kept : goal.returns-clause-kept
returns-clause-kept c = ap held c.loop-at.invariant.0
