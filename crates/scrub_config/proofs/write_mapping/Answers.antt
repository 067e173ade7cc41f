-- `scrub_config::write_mapping` meets its contract. Tag and label are written one after the other.
use native.Mathlib.Omega.{arith}
use Rattle.runs.proofs.Writing.{writing_run, room_for, writing_last}
use Rattle.numbers.specs.Tags.{tag_bytes}
use Rattle.numbers.proofs.Tags.{length_tag}
use Rattle.scrub_config.proofs.Entries.{mapping_begun}
use Rattle.scrub_config.proofs.write_mapping.Goals as goal

pub write_tag-label-requires : goal.write_tag-label-requires
write_tag-label-requires c =
    let r = room_for (tag_bytes c.args.mapping.tag) _ (mapping_begun c.args.p.now c.args.mapping c.args.out.now c.args.at c.requires.1) in
    let t = c.requires.0.0 in
    (omega (arith, r, length_tag c.args.mapping.tag), omega arith)

pub copy-requires : goal.copy-requires
copy-requires c = (writing_run _ _ (mapping_begun c.args.p.now c.args.mapping c.args.out.now c.args.at c.requires.1) c.write_tag-label.ensures).room

pub returns : goal.returns
returns c = writing_last _ (writing_run _ _ (mapping_begun c.args.p.now c.args.mapping c.args.out.now c.args.at c.requires.1) c.write_tag-label.ensures) c.copy.ensures
