-- `crc::crc_by` meets its contract.
use native.Mathlib.Omega.{arith}
use Rattle.crc.specs.Crc.{crc_of}
use Rattle.crc.proofs.Slices.{left_whole, left_slice}
use Rattle.crc.proofs.crc_by.Goals as goal

pub loop-slice-init : goal.loop-slice-init
unfolding crc_of
loop-slice-init g c = left_whole _ _

pub loop-slice-preserved : goal.loop-slice-preserved
loop-slice-preserved g c =
    let e = c.as_chunks.ensures in
    left_slice 16 c.loop-slice.slice-index c.loop-slice.invariant _ e.front (omega arith) (omega (arith, e.front_len)) c.sixteen_in-c.ensures
