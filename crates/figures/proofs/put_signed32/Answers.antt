-- `figures::put_signed32` meets its contract: a number below the middle as it is, another as a minus and what it lacks to 2 ^ 32.
use Prim.Native.Nat.{ℕ, ◌+◌, ◌-◌, ◌^◌, ◌<◌}
use mathlib.Core.Path.{◌≡◌, ap, subst}
use mathlib.Core.List.{[], ◌∷◌, ◌++◌}
use native.Mathlib.Omega.{arith}
use lib.ListN.{length, set, length-set}
use Rattle.runs.proofs.Over.{wrote_byte, wrote_then}
use Rattle.numbers.specs.Big.{signed32}
use Rattle.figures.specs.Figures.{decimal, integer}
use Rattle.figures.specs.Fields.{FieldPut}
use Rattle.figures.proofs.Figures.{signed_low, signed_high}
use Rattle.figures.proofs.Fields.{field_put}
use Rattle.figures.proofs.put_signed32.Goals as goal
use Rattle.figures.proofs.put_signed32.Goals.{Else-n-lt-NEGATIVE, Then-n-lt-NEGATIVE}

-- what the number is as text, by the test
low : (c : Then-n-lt-NEGATIVE) → let n = c.args.n in integer (signed32 n) ≡ decimal n
low c = signed_low c.args.n c.if-n-lt-NEGATIVE.true

high : (c : Else-n-lt-NEGATIVE) → let n = c.args.n in integer (signed32 n) ≡ 45 ∷ decimal (2 ^ 32 - n)
high c = signed_high c.args.n c.if-n-lt-NEGATIVE.false c.ranges.n.fits

room : (c : Else-n-lt-NEGATIVE) → let a = c.args in a.at + 1 + length (decimal (2 ^ 32 - a.n)) < length a.out.now
room c = omega (arith, c.requires, ap length (high c))

pub returns : goal.returns
returns c =
    let a = c.args in
    let digits = decimal (2 ^ 32 - a.n) in
    let h : a.at < length a.out.now = omega (arith, room (goal.at.returns c).Else-n-lt-NEGATIVE) in
    let put = subst (λ (m : ℕ). FieldPut (set a.out.now a.at 45) (a.at + 1) (decimal (2 ^ 32 - m)) a.end c.put_decimal-2.result c.put_decimal-2.new.out) c.from-2.ensures c.put_decimal-2.ensures in
    rw (high (goal.at.returns c).Else-n-lt-NEGATIVE)
    (field_put (45 ∷ digits) a.end
    (wrote_then (45 ∷ []) (digits ++ (a.end ∷ [])) (omega arith) (wrote_byte a.out.now a.at 45 h) put.wrote))

pub put_decimal-requires : goal.put_decimal-requires
put_decimal-requires c =
    omega (arith, c.requires, ap (λ (m : ℕ). length (decimal m)) c.from.ensures, ap length (low (goal.at.put_decimal-requires c).Then-n-lt-NEGATIVE))

pub returns-then-n-lt-NEGATIVE : goal.returns-then-n-lt-NEGATIVE
returns-then-n-lt-NEGATIVE c =
    let a = c.args in
    rw (low (goal.at.returns-then-n-lt-NEGATIVE c).Then-n-lt-NEGATIVE)
    (subst (λ (m : ℕ). FieldPut a.out.now a.at (decimal m) a.end c.put_decimal.result c.put_decimal.new.out) c.from.ensures c.put_decimal.ensures)

pub put_decimal-requires-2 : goal.put_decimal-requires-2
put_decimal-requires-2 c = simp (length-set, c.from-2.ensures) (room (goal.at.put_decimal-requires-2 c).Else-n-lt-NEGATIVE)
