-- `scrub_ops::write_open` meets its contract. Tag, length and the two numbers are written one after the other.
use native.Mathlib.Omega.{arith}
use Rattle.runs.specs.Digits.{digits}
use Rattle.runs.proofs.Digits.{length_digits}
use Rattle.runs.proofs.Writing.{writing_run, room_for, writing_last}
use Rattle.numbers.specs.Tags.{tag_bytes}
use Rattle.numbers.proofs.Tags.{length_tag}
use Rattle.scrub_ops.proofs.Ops.{open_begins}
use Rattle.scrub_ops.proofs.write_open.Goals as goal

pub write_tag-a-requires : goal.write_tag-a-requires
write_tag-a-requires c =
    let r = room_for (tag_bytes 2) _ (open_begins c.args.size c.args.offset c.args.duration c.args.out.now c.args.at c.requires.0) in
    (omega (arith, r, length_tag 2), omega arith)

pub write_length-b-requires : goal.write_length-b-requires
write_length-b-requires c = room_for _ _ (writing_run _ _ (open_begins c.args.size c.args.offset c.args.duration c.args.out.now c.args.at c.requires.0) c.write_tag-a.ensures)

pub write_be16-last-requires : goal.write_be16-last-requires
write_be16-last-requires c =
    let w = writing_run _ _ (writing_run _ _ (open_begins c.args.size c.args.offset c.args.duration c.args.out.now c.args.at c.requires.0) c.write_tag-a.ensures) c.write_length-b.ensures in
    omega (arith, room_for (digits 256 2 c.args.offset) _ w, length_digits 256 2 c.args.offset)

pub write_be16-requires : goal.write_be16-requires
write_be16-requires c =
    let w = writing_run _ _ (writing_run _ _ (open_begins c.args.size c.args.offset c.args.duration c.args.out.now c.args.at c.requires.0) c.write_tag-a.ensures) c.write_length-b.ensures in
    omega (arith, (writing_run (digits 256 2 c.args.offset) _ w c.write_be16-last.ensures).room, length_digits 256 2 c.args.duration)

pub returns : goal.returns
returns c =
    let w = writing_run _ _ (writing_run _ _ (open_begins c.args.size c.args.offset c.args.duration c.args.out.now c.args.at c.requires.0) c.write_tag-a.ensures) c.write_length-b.ensures in
    writing_last _ (writing_run (digits 256 2 c.args.offset) _ w c.write_be16-last.ensures) c.write_be16.ensures
