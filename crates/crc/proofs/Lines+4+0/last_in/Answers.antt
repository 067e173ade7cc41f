-- `Lines::last_in` meets its contract.
use native.Mathlib.Omega.{arith}
use Rattle.crc.proofs.Slices.{left_slice, left_byte, left_done}
use Rattle.crc.proofs.Lines+4+0.last_in.Goals as goal

pub loop-slice-preserved : goal.loop-slice-preserved
loop-slice-preserved c =
    let e = c.as_chunks.ensures in
    left_slice 4 c.loop-slice.slice-index c.loop-slice.invariant _ e.front (omega arith) (omega (arith, e.front_len)) c.four_in-c.ensures

pub loop-b-preserved : goal.loop-b-preserved
loop-b-preserved c = left_byte c.loop-b.invariant (omega arith) c.byte_in-c.ensures

pub returns : goal.returns
returns c = left_done c.loop-b.invariant (omega arith)
