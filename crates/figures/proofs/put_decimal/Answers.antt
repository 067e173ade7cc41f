-- `figures::put_decimal` meets its contract. Where the loop ends, all figures stand there.
use Prim.Native.Nat.{ℕ, ◌+◌, ◌-◌, ◌<◌}
use mathlib.Core.Path.{◌≡◌, ap₂, ◌∙◌}
use mathlib.Core.List.{[], ◌∷◌}
use native.Mathlib.Omega.{arith}
use lib.ListN.{length}
use Rattle.runs.specs.Over.{over}
use Rattle.runs.proofs.Over.{wrote_byte, wrote_then}
use Rattle.figures.specs.Figures.{decimal, size_from}
use Rattle.figures.proofs.Figures.{figures, length_decimal, standing_none, standing_more}
use Rattle.figures.proofs.Fields.{field_put}
use Rattle.figures.proofs.put_decimal.Goals as goal
use Rattle.figures.proofs.put_decimal.Goals.{After-decimal_size, After-loop-i}

-- there is room for the figures and the byte after them
room : (c : After-decimal_size) → c.args.at + c.decimal_size.result < length c.args.out.now
room c = omega (arith, c.requires, c.decimal_size.ensures, length_decimal c.args.n)

-- all figures stand there
stand : (c : After-loop-i) → c.loop-i.out ≡ over c.args.out.now c.args.at (decimal c.args.n)
unfolding decimal
stand c =
    let a = c.args in
    let l = c.loop-i in
    let k = a.at + c.decimal_size.result - l.i in
    let e : l.i ≡ a.at = omega arith in
    let f : k ≡ size_from 1 19 a.n = omega (arith, e, c.decimal_size.ensures) in
    l.invariant.1.stands ∙ ap₂ (λ (i m : ℕ). over a.out.now i (figures m a.n)) e f

pub overflow_add-next : goal.overflow_add-next
overflow_add-next c = omega (arith, room (goal.at.overflow_add-next c).After-decimal_size)

pub loop-i-init : goal.loop-i-init
loop-i-init c = (omega arith, standing_none c.args.out.now _ c.args.n)

pub bounds-out-i : goal.bounds-out-i
bounds-out-i c = omega (arith, room (goal.at.bounds-out-i c).After-decimal_size)

pub loop-i-preserved : goal.loop-i-preserved
loop-i-preserved c =
    let l = c.loop-i in
    (omega arith, standing_more (omega arith) (omega arith) (omega (arith, room (goal.at.loop-i-preserved c).After-decimal_size)) l.invariant.1)

pub bounds-out-next : goal.bounds-out-next
bounds-out-next c = omega (arith, room (goal.at.bounds-out-next c).After-decimal_size)

pub overflow_add-result : goal.overflow_add-result
overflow_add-result c = omega (arith, room (goal.at.overflow_add-result c).After-decimal_size)

pub returns : goal.returns
returns c =
    let a = c.args in
    let h = room (goal.at.returns c).After-decimal_size in
    let size = c.decimal_size.ensures in
    field_put (decimal a.n) a.end
    (wrote_then (decimal a.n) (a.end ∷ []) (omega (arith, h, size, length_decimal a.n))
    (record { next = omega (arith, size, length_decimal a.n); buffer = stand (goal.at.returns c).After-loop-i })
    (wrote_byte c.loop-i.out (a.at + c.decimal_size.result) a.end (omega arith)))
