-- `numbers::write_big` meets its contract. The loop keeps what is left to write: the digits left, written now, give the whole.
use Prim.Native.Nat.{◌-◌}
use native.Mathlib.Omega.{arith}
use Rattle.runs.specs.Digits.{digits}
use Rattle.runs.proofs.Digits.{length_digits}
use Rattle.runs.proofs.Writing.{writing_begins, writing_as, writing_byte, writing_done}
use Rattle.numbers.proofs.Shifts.{digit_first, digits_none}
use Rattle.numbers.proofs.write_big.Goals as goal

pub loop-left-init : goal.loop-left-init
loop-left-init c =
    let a = c.args in
    (omega arith, writing_begins a.out.now a.at (digits 256 a.count a.v) (omega (arith, length_digits 256 a.count a.v)))

pub bounds-out-next : goal.bounds-out-next
bounds-out-next c = omega (arith, length_digits 256 c.loop-left.left c.args.v)

pub overflow_add-next : goal.overflow_add-next
overflow_add-next c = omega (arith, length_digits 256 c.loop-left.left c.args.v)

pub loop-left-preserved : goal.loop-left-preserved
loop-left-preserved c =
    let l = c.loop-left in
    let v = c.args.v in
    (omega arith, writing_byte _ (digits 256 (l.left - 1) v) (writing_as (digit_first 8 l.left v (omega arith)) l.invariant.1))

pub shape_of-out : goal.shape_of-out
shape_of-out c = c.loop-left.invariant.1.same

pub returns : goal.returns
returns c =
    let l = c.loop-left in
    writing_done (writing_as (digits_none 256 l.left c.args.v (omega arith)) l.invariant.1)
