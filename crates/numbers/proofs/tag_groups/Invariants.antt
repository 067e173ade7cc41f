-- `numbers::tag_groups` meets its contract. The loop keeps what is left: the groups from `next` on, after the number so far, give the whole.
use Rattle.std.proofs.Common.{◌≡◌, ◌-◌, ◌^◌, ◌<◌}
use Rattle.numbers.specs.Tags.{tag_from}
use Rattle.numbers.proofs.tag_groups.Given as goal

abbrev pub invariant-loop : goal.invariant-loop
invariant-loop l = (l.value < 128 ^ l.counter) × (tag_from (4 - l.counter) l.s l.next l.value ≡ tag_from 4 l.s l.at 0)
