-- `scrub_ops::write_put` meets its contract. Tag, length and value are written one after the other.
use native.Mathlib.Omega.{arith}
use Rattle.runs.proofs.Writing.{writing_run, room_for, writing_last}
use Rattle.numbers.specs.Tags.{tag_bytes}
use Rattle.numbers.proofs.Tags.{length_tag}
use Rattle.scrub_ops.proofs.Ops.{put_begins}
use Rattle.scrub_ops.proofs.write_put.Goals as goal

pub write_tag-a-requires : goal.write_tag-a-requires
write_tag-a-requires c =
    let r = room_for (tag_bytes c.args.tag) _ (put_begins c.args.p.now c.args.tag c.args.start c.args.len c.args.out.now c.args.at c.requires.0) in
    (omega (arith, r, length_tag c.args.tag), c.requires.1.0)

pub write_length-b-requires : goal.write_length-b-requires
write_length-b-requires c = room_for _ _ (writing_run _ _ (put_begins c.args.p.now c.args.tag c.args.start c.args.len c.args.out.now c.args.at c.requires.0) c.write_tag-a.ensures)

pub copy-requires : goal.copy-requires
copy-requires c =
    let w = writing_run _ _ (put_begins c.args.p.now c.args.tag c.args.start c.args.len c.args.out.now c.args.at c.requires.0) c.write_tag-a.ensures in
    (writing_run _ _ w c.write_length-b.ensures).room

pub returns : goal.returns
returns c =
    let w = writing_run _ _ (put_begins c.args.p.now c.args.tag c.args.start c.args.len c.args.out.now c.args.at c.requires.0) c.write_tag-a.ensures in
    writing_last _ (writing_run _ _ w c.write_length-b.ensures) c.copy.ensures
