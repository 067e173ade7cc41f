-- `Lines::bytes_in` meets its contract.
use native.Mathlib.Omega.{arith}
use Rattle.crc.proofs.Slices.{left_slice}
use Rattle.crc.proofs.Lines+4+0.bytes_in.Goals as goal

pub loop-slice-preserved : goal.loop-slice-preserved
loop-slice-preserved c =
    let e = c.as_chunks.ensures in
    left_slice 8 c.loop-slice.slice-index c.loop-slice.invariant _ e.front (omega arith) (omega (arith, e.front_len)) c.eight_in-c.ensures
