-- `numbers::write_tag` meets its contract. The loop keeps what is left to write: the groups left, written now, give the whole.
use Prim.Native.Nat.{ℕ, suc, ◌-◌, ◌%◌, ◌<◌}
use mathlib.Core.Path.{◌≡◌, sym, ap, ◌∙◌}
use native.Mathlib.Omega.{arith}
use lib.ListN.{length}
use mathlib.Core.List.{[], ◌∷◌}
use Rattle.runs.specs.Digits.{digits}
use Rattle.runs.proofs.Writing.{Writing, writing_begins, writing_as, writing_byte, writing_done}
use Rattle.numbers.specs.Tags.{continued, tag_bytes}
use Rattle.numbers.proofs.Tags.{tag_size_bounds, length_tag, length_groups, marked_first, marked_last}
use Rattle.numbers.proofs.write_tag.Goals as goal
use Rattle.numbers.proofs.write_tag.Goals.{After-loop-left, In-loop-left}

-- there is room for a group
room : (c : In-loop-left) → c.loop-left.next < length c.loop-left.out
room c = let l = c.loop-left in omega (arith, l.invariant.2.room, length_groups l.left c.args.t)

-- after the loop the last group is left
last : (c : After-loop-left)
    → let a = c.args in let l = c.loop-left in Writing a.out.now a.at (tag_bytes a.t) l.out l.next (a.t % 128 ∷ [])
last c =
    let l = c.loop-left in
    let z : l.left ≡ suc 0 = omega arith in
    writing_as (ap (λ (k : ℕ). continued (digits 128 k c.args.t)) z ∙ marked_last 0 c.args.t (omega arith)) l.invariant.2

pub overflow_mul-out : goal.overflow_mul-out
overflow_mul-out c = omega (arith, c.loop-left.invariant.1)

pub loop-left-init : goal.loop-left-init
unfolding tag_bytes
loop-left-init c =
    let a = c.args in
    let z = c.tag_size-left.ensures in (
      omega (arith, z, tag_size_bounds a.t),
      omega (arith, z, tag_size_bounds a.t),
      writing_as (ap (λ (k : ℕ). continued (digits 128 k a.t)) (sym z)) (writing_begins a.out.now a.at (tag_bytes a.t) (omega (arith, length_tag a.t))),
    )

pub bounds-out-next : goal.bounds-out-next
bounds-out-next c = omega (arith, room c)

pub loop-left-preserved : goal.loop-left-preserved
loop-left-preserved c =
    let l = c.loop-left in
    let t = c.args.t in
    let j = l.left - 1 in
    let z : l.left ≡ suc j = omega arith in
    (omega arith, omega (arith, l.invariant.1), writing_byte _ _ (writing_as (ap (λ (k : ℕ). continued (digits 128 k t)) z ∙ marked_first j t (omega arith)) l.invariant.2))

pub bounds-out-next-2 : goal.bounds-out-next-2
bounds-out-next-2 c = omega (arith, (last c).room)

pub returns : goal.returns
returns c = writing_done (writing_byte _ [] (last c))
