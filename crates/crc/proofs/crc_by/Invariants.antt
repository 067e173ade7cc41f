-- `crc::crc_by` meets its contract. The loop's invariant: what is left of the bytes takes the register to the whole's CRC.
use Prim.Native.Nat.{◌*◌}
use Rattle.crc.specs.Crc.{crc_of}
use Rattle.crc.proofs.Slices.{Left}
use Rattle.crc.proofs.crc_by.Given as goal

abbrev pub invariant-loop-slice : goal.invariant-loop-slice
invariant-loop-slice g l = Left l.s (crc_of l.s) l.c (16 * l.slice-index)
