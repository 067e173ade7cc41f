-- The entries that were passed are there.
use mathlib.Core.Path.{◌≡◌, refl, sym, ap, ◌∙◌}
use mathlib.Core.List.{List, [], ◌∷◌, ◌++◌}
use mathlib.Core.Bool.{Bool}
use Prim.Native.Nat.{◌≤◌}
use native.Mathlib.Omega.{arith}
use lib.ListN.{length, get_or, take}
use lib.Seq.{length-take-le, take_all}
use Rattle.objects.specs.declared.Object.{Object}
use Rattle.objects.specs.Entries.{blank}
use Rattle.objects_apply.specs.Held.{held}
use Rattle.objects_apply.specs.Slots.{follows}
use Rattle.objects_apply.proofs.Judging.{too_long, starts, passes, refuses, one_more, ends}
use Rattle.objects_apply.proofs.Stores.{held_length}
use Rattle.objects_apply.proofs.table.Table.load.Goals as goal
use Rattle.objects_apply.proofs.table.Table.load.Goals.{After-may_follow}

pub returns-then-lent-gt-MOST : goal.returns-then-lent-gt-MOST
returns-then-lent-gt-MOST c = (too_long _ c.if-lent-gt-MOST.true, c.at.ensures)

pub loop-o-init : goal.loop-o-init
loop-o-init c = (starts _, c.requires)

-- a turn: whether its entry may follow those before it
turn : (c : After-may_follow) → c.may_follow.result ≡ follows (take c.loop-o.o-index c.args.lent.now) (get_or c.args.lent.now c.loop-o.o-index blank)
turn c =
    c.may_follow.ensures
    ∙ ap (λ (l : List Object). follows l (get_or c.args.lent.now c.loop-o.o-index blank)) c.loop-o.invariant.1

pub returns-then-not-may_follow : goal.returns-then-not-may_follow
returns-then-not-may_follow c =
    let t = turn (goal.at.returns-then-not-may_follow c).After-may_follow in
    (refuses c.loop-o.invariant.0 c.loop-o-test.true _ refl (sym t ∙ c.if-not-may_follow.true), c.at-then-not-may_follow.ensures)

pub push-requires-clause-room : goal.push-requires-clause-room
push-requires-clause-room c =
    let i = c.loop-o.o-index in
    let held_is = ap length c.loop-o.invariant.1 in
    omega (arith, held_is, held_length c.loop-o.self, length-take-le i c.args.lent.now (omega (arith, c.loop-o-test.true)), c.if-lent-gt-MOST.false)

pub push-requires-clause-next : goal.push-requires-clause-next
push-requires-clause-next c = sym c.may_follow.ensures ∙ c.if-not-may_follow.false

pub loop-o-preserved : goal.loop-o-preserved
loop-o-preserved c =
    let p = c.loop-o.invariant.0 in
    let h = c.loop-o-test.true in
    let o = get_or c.args.lent.now c.loop-o.o-index blank in
    let t = turn (goal.at.loop-o-preserved c).After-may_follow in (
      passes p h o refl (sym t ∙ c.if-not-may_follow.false),
      c.push.ensures ∙ ap (λ (l : List Object). l ++ (o ∷ [])) c.loop-o.invariant.1 ∙ sym (one_more p h o refl),
    )

pub returns : goal.returns
returns c = (ends c.loop-o.invariant.0 c.loop-o-test.false c.if-lent-gt-MOST.false, c.loop-o.invariant.1 ∙ take_all _ _ c.loop-o-test.false)
