-- `numbers::read_big` meets its contract. The loop keeps what is left: the number so far, followed by the bytes left, is the whole.
use Rattle.std.proofs.Common.{◌≡◌, ◌^◌, ◌<◌, drop}
use Rattle.runs.specs.Digits.{number_from}
use Rattle.numbers.specs.Big.{big_at}
use Rattle.numbers.proofs.read_big.Given as goal

abbrev pub invariant-loop-byte : goal.invariant-loop-byte
invariant-loop-byte l = (l.number < 256 ^ l.byte-index) × (number_from 256 l.number (drop l.byte-index l.byte-items) ≡ big_at l.s l.at l.count)
