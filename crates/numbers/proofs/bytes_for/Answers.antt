-- `numbers::bytes_for` meets its contract: the law of the leading zeros.
use borrow.Author.Rules.{rules}
use native.Mathlib.Omega.{arith}
use lib.Count.{leading_le}
use Rattle.numbers.proofs.Lengths.{bytes_for_zeros}
use Rattle.numbers.proofs.bytes_for.Goals as goal

pub overflow_sub-result : goal.overflow_sub-result
overflow_sub-result c = omega (arith, leading_le 32 c.args.n)

pub returns : goal.returns
returns c = (bytes_for_zeros c.args.n c.requires c.ranges.n.fits, search rules)
