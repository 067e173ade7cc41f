-- `numbers::write_length` meets its contract: the laws of the two forms, and one run after another.
use Prim.Native.Nat.{ℕ, ◌+◌, ◌≤◌, ◌<◌}
use mathlib.Core.Path.{◌≡◌, ap, sym, ◌∙◌}
use mathlib.Core.List.{[], ◌∷◌}
use native.Mathlib.Omega.{arith}
use lib.ListN.{length, length-set}
use Rattle.runs.specs.Digits.{digits}
use Rattle.runs.proofs.Over.{wrote_byte, wrote_then, wrote_as}
use Rattle.numbers.specs.Lengths.{length_bytes}
use Rattle.numbers.proofs.Lengths.{length_short, length_long, size_long}
use Rattle.numbers.proofs.write_length.Goals as goal
use Rattle.numbers.proofs.write_length.Goals.{After-bytes_for-count, Then-n-lt128}

-- there is room for the number that stands for itself, and for the long form
short_room : (c : Then-n-lt128) → let a = c.args in a.at < length a.out.now
short_room c = omega (arith, ap length (length_short c.args.n c.if-n-lt128.true))

long_room : (c : After-bytes_for-count) → let a = c.args in a.at + 1 + c.bytes_for-count.result ≤ length a.out.now
long_room c = omega (arith, c.bytes_for-count.ensures.0, size_long c.args.n c.if-n-lt128.false)

pub bounds-out-at : goal.bounds-out-at
bounds-out-at c = short_room c

pub returns-then-n-lt128 : goal.returns-then-n-lt128
returns-then-n-lt128 c =
    let a = c.args in
    wrote_as (sym (length_short a.n c.if-n-lt128.true)) (wrote_byte a.out.now a.at a.n (short_room c))

pub overflow_add-out : goal.overflow_add-out
overflow_add-out c = omega (arith, c.bytes_for-count.ensures.1)

pub overflow_cast-out-2 : goal.overflow_cast-out-2
overflow_cast-out-2 c = omega (arith, c.bytes_for-count.ensures.1)

pub bounds-out-at-2 : goal.bounds-out-at-2
bounds-out-at-2 c = omega (arith, long_room c)

pub write_big-requires : goal.write_big-requires
write_big-requires c = (simp length-set (long_room (goal.at.write_big-requires c).After-bytes_for-count), c.bytes_for-count.ensures.1)

pub shape_of-out : goal.shape_of-out
shape_of-out c = c.write_big.auto.out ∙ simp length-set

pub returns : goal.returns
returns c =
    let a = c.args in
    let m = c.bytes_for-count.result in
    let e : (128 + m) ∷ digits 256 m a.n ≡ length_bytes a.n =
    ap (λ (i : ℕ). (128 + i) ∷ digits 256 i a.n) c.bytes_for-count.ensures.0 ∙ sym (length_long a.n c.if-n-lt128.false) in
    let room : a.at < length a.out.now = omega (arith, long_room (goal.at.returns c).After-bytes_for-count) in
    wrote_as e (wrote_then ((128 + m) ∷ []) (digits 256 m a.n) (omega arith) (wrote_byte a.out.now a.at (128 + m) room) c.write_big.ensures)
