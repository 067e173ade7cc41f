-- `numbers::sum32` meets its contract: 64 bits hold the sum.
use Prim.Native.Nat.{ℕ, ◌+◌, ◌%◌, ◌^◌}
use mathlib.Core.Path.{ap}
use Rattle.numbers.specs.Big.{sum32}
use Rattle.numbers.proofs.sum32.Goals as goal

pub returns : goal.returns
unfolding sum32
returns c = ap (λ (b : ℕ). (c.args.a + b) % 2 ^ 32) c.extended-b.ensures
