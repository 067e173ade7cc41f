-- `numbers::write_tag` meets its contract. The loop keeps what is left to write: the groups left, written now, give the whole.
use Rattle.std.proofs.Common.{◌≤◌, ◌<◌}
use Rattle.runs.specs.Digits.{digits}
use Rattle.runs.proofs.Writing.{Writing}
use Rattle.numbers.specs.Tags.{continued, tag_bytes}
use Rattle.numbers.proofs.write_tag.Given as goal

abbrev pub invariant-loop-left : goal.invariant-loop-left
invariant-loop-left l = (0 < l.left) × (l.left ≤ 4) × Writing l.initial.out l.at (tag_bytes l.t) l.out l.next (continued (digits 128 l.left l.t))
