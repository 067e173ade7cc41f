-- `numbers::tag_groups` meets its contract. The loop keeps what is left: the groups from `next` on, after the number so far, give the whole.
use Prim.Native.Nat.{suc, ◌+◌, ◌-◌, ◌^◌, ◌<◌, ◌≤◌}
use mathlib.Core.Path.{◌≡◌, refl, sym, ◌∙◌}
use native.Mathlib.Omega.{arith}
use lib.ListN.{get_or}
use Rattle.runs.proofs.Digits.{one_more, more_digits}
use Rattle.numbers.proofs.Tags.{groups_none, groups_cut, groups_last, groups_more}
use Rattle.numbers.proofs.tag_groups.Goals as goal
use Rattle.numbers.proofs.tag_groups.Goals.{In-loop}

-- the number so far leaves room for a group
room : (c : In-loop) → c.loop.value < 128 ^ 3
room c =
    let k : c.loop.counter ≤ 3 = omega arith in
    more_digits 128 (omega arith) k c.loop.invariant.0

pub loop-init : goal.loop-init
loop-init c = (omega arith, refl)

pub returns-then-s-next : goal.returns-then-s-next
returns-then-s-next c = sym (groups_cut _ _ _ _ (omega arith) c.if-s-next.true) ∙ c.loop.invariant.1

pub overflow_mul-result : goal.overflow_mul-result
overflow_mul-result c = omega (arith, room (goal.at.overflow_mul-result c).In-loop)

pub overflow_add-result : goal.overflow_add-result
overflow_add-result c = omega (arith, room (goal.at.overflow_add-result c).In-loop)

pub returns-then-byte-lt128 : goal.returns-then-byte-lt128
returns-then-byte-lt128 c =
    sym (groups_last _ _ _ _ (omega arith) c.if-s-next.false c.if-byte-lt128.true) ∙ c.loop.invariant.1

pub overflow_mul-value : goal.overflow_mul-value
overflow_mul-value c = omega (arith, room (goal.at.overflow_mul-value c).In-loop)

pub overflow_add-value : goal.overflow_add-value
overflow_add-value c = omega (arith, room (goal.at.overflow_add-value c).In-loop, c.type_inv.s c.loop.next)

pub loop-preserved : goal.loop-preserved
loop-preserved c =
    let l = c.loop in
    let s = c.args.s.now in
    let d : get_or s l.next 0 - 128 < 128 = omega (arith, c.type_inv.s l.next) in
    let e : 4 - (l.counter + 1) ≡ 4 - l.counter - 1 = omega arith in
    let k : l.counter + 1 ≡ suc l.counter = omega arith in (
      rw k (one_more 128 _ l.value _ l.invariant.0 d),
      rw e (sym (groups_more _ _ _ _ (omega arith) c.if-s-next.false c.if-byte-lt128.false) ∙ l.invariant.1),
    )

pub returns : goal.returns
returns c = groups_none _ _ _ _ (omega arith) ∙ c.loop.invariant.1
