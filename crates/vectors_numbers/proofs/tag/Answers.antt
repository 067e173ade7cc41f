-- No tag is longer than four bytes, so that `out` has room for it.
use Rattle.std.proofs.Common.{arith}
use Rattle.numbers.proofs.Tags.{tag_size_bounds, length_tag}
use Rattle.vectors_numbers.proofs.tag.Goals as goal

pub write_tag-end-requires : goal.write_tag-end-requires
write_tag-end-requires g c = omega (arith, tag_size_bounds c.args.t)

pub slice_bounds-write-end : goal.slice_bounds-write-end
slice_bounds-write-end g c =
    omega (arith, tag_size_bounds c.args.t, length_tag c.args.t, c.write_tag-end.ensures.next)
