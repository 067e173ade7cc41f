-- `numbers::length_size` meets its contract: the laws of the two forms.
use mathlib.Core.Path.{ap, sym}
use native.Mathlib.Omega.{arith}
use lib.ListN.{length}
use Rattle.numbers.proofs.Lengths.{length_short, size_long}
use Rattle.numbers.proofs.length_size.Goals as goal

pub returns-then-n-lt128 : goal.returns-then-n-lt128
returns-then-n-lt128 c = sym (ap length (length_short _ c.if-n-lt128.true))

pub returns-else-n-lt128 : goal.returns-else-n-lt128
returns-else-n-lt128 c = omega (arith, c.bytes_for.ensures.0, size_long _ c.if-n-lt128.false)
