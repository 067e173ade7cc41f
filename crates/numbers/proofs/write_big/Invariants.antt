-- `numbers::write_big` meets its contract. The loop keeps what is left to write: the digits left, written now, give the whole.
use Rattle.std.proofs.Common.{◌≤◌}
use Rattle.runs.specs.Digits.{digits}
use Rattle.runs.proofs.Writing.{Writing}
use Rattle.numbers.proofs.write_big.Given as goal

abbrev pub invariant-loop-left : goal.invariant-loop-left
invariant-loop-left l = (l.left ≤ 4) × Writing l.initial.out l.at (digits 256 l.count l.v) l.out l.next (digits 256 l.left l.v)
