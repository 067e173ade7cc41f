-- `scrub_write::write_close` meets its contract. The CRC is that of what stands before it, and the rest is cleared.
use mathlib.Core.Path.{◌∙◌}
use native.Mathlib.Omega.{arith}
use lib.ListN.{length-set}
use Rattle.runs.proofs.Digits.{length_digits}
use Rattle.scrub_write.proofs.Close.{two_length, closed}
use Rattle.scrub_write.proofs.write_close.Goals as goal

pub bounds-out-at-2 : goal.bounds-out-at-2
bounds-out-at-2 c = simp length-set (omega arith)

pub slice_bounds-crc-end : goal.slice_bounds-crc-end
slice_bounds-crc-end c = simp length-set (omega arith)

pub write_be32-end-requires : goal.write_be32-end-requires
write_be32-end-requires c = simp length-set (omega arith)

pub clear-requires : goal.clear-requires
clear-requires c =
    let l = two_length c.args.out.now c.args.at c.requires in
    let d = length_digits 256 4 c.crc-sum.result in
    let n = c.write_be32-end.ensures.next in
    let m = c.write_be32-end.auto.out in
    let h = c.requires in
    omega arith

pub shape_of-out : goal.shape_of-out
shape_of-out c =
    c.clear.auto.out ∙ c.write_be32-end.auto.out ∙ two_length c.args.out.now c.args.at c.requires

pub returns : goal.returns
returns c =
    closed c.args.out.now c.args.at c.requires _ _ _ _ c.crc-sum.ensures c.write_be32-end.ensures c.clear.ensures
