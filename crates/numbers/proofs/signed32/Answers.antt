-- `numbers::signed32` meets its contract: both numbers fit, so that the code's difference is the integers'.
use Prim.Native.Nat.{ℕ, ◌^◌, ◌<◌}
use mathlib.Core.Path.{◌≡◌, ap, ◌∙◌}
use borrow.Author.Rules.{sfits_of}
use borrow.Author.Tests.{le-ltb, lt-ltb}
use native.Mathlib.Omega.{arith}
use lib.IntN.{ℤ, pos, ◌-ℤ◌}
use mir.Syntax.{w64}
use mir.Val.{SFits, to_z}
use mir.Facts.{to_z_pos, to_z-of_z}
use Rattle.numbers.specs.Big.{signed32}
use Rattle.numbers.proofs.signed32.Goals as goal

difference_fits : (n : ℕ) → n < 2 ^ 32 → SFits w64 (to_z w64 n -ℤ pos (2 ^ 32))
difference_fits n h =
    let e : to_z w64 n ≡ pos n = to_z_pos w64 (omega arith) in
    rw (e, lt-ltb n (2 ^ 32) h) (sfits_of (omega arith))

pub overflow_sub-result : goal.overflow_sub-result
overflow_sub-result c = difference_fits _ c.ranges.n.fits

pub returns-then-n-lt2147483648 : goal.returns-then-n-lt2147483648
unfolding signed32
returns-then-n-lt2147483648 c = simp (lt-ltb _ _ c.if-n-lt2147483648.true) (to_z_pos w64 (omega arith))

pub returns-else-n-lt2147483648 : goal.returns-else-n-lt2147483648
unfolding signed32
returns-else-n-lt2147483648 c =
    let n = c.args.n in
    let h : n < 2 ^ 32 = c.ranges.n.fits in
    let e : to_z w64 n ≡ pos n = to_z_pos w64 (omega arith) in
    simp (le-ltb _ _ c.if-n-lt2147483648.false) (to_z-of_z (difference_fits n h) ∙ ap (λ (z : ℤ). z -ℤ pos (2 ^ 32)) e)
