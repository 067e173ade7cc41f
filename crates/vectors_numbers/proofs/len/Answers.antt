-- No length is written in more than five bytes, so that `out` has room for it.
use Rattle.std.proofs.Common.{arith}
use Rattle.numbers.proofs.Lengths.{length_small}
use Rattle.vectors_numbers.proofs.len.Goals as goal

pub write_length-end-requires : goal.write_length-end-requires
write_length-end-requires g c = omega (arith, length_small c.args.n)

pub slice_bounds-write-end : goal.slice_bounds-write-end
slice_bounds-write-end g c = omega (arith, length_small c.args.n, c.write_length-end.ensures.next)
