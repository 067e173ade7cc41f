-- `crc::widened` meets its contract. The loops' invariant: the entries before the place that is written are those of a table of bytes.
use Prim.Native.Nat.{◌+◌, ◌*◌}
use Rattle.crc.specs.Tables.{Wider}
use Rattle.crc.proofs.widened.Given as goal

abbrev pub invariant-loop-low : goal.invariant-loop-low
invariant-loop-low l = Wider l.n (l.high * 16 + l.low) l.t

abbrev pub invariant-loop-high : goal.invariant-loop-high
invariant-loop-high l = Wider l.n (l.high * 16) l.t
