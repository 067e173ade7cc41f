-- `Lines::last_in` meets its contract. The loops' invariant: what is left of the bytes takes the register to where the whole takes the start.
use Prim.Native.Nat.{◌*◌}
use Rattle.bits.specs.Bits.{bits}
use Rattle.crc.specs.Crc.{register}
use Rattle.crc.proofs.Slices.{Left}
use Rattle.crc.proofs.Lines+4+0.last_in.Given as goal

abbrev pub invariant-loop-slice : goal.invariant-loop-slice
invariant-loop-slice l = Left l.s (register l.start (bits l.s)) l.c (4 * l.slice-index)

abbrev pub invariant-loop-b : goal.invariant-loop-b
invariant-loop-b l = Left l.rest (register l.start (bits l.s)) l.c l.b-index
