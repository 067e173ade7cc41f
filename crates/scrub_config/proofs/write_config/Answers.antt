-- `scrub_config::write_config` meets its contract. Tag, length, offset and mappings are written one after the other.
use native.Mathlib.Omega.{arith}
use Rattle.runs.specs.Digits.{digits}
use Rattle.runs.proofs.Digits.{length_digits}
use Rattle.runs.proofs.Writing.{writing_run, room_for, writing_last}
use Rattle.numbers.specs.Tags.{tag_bytes}
use Rattle.numbers.proofs.Tags.{length_tag}
use Rattle.scrub_config.proofs.Entries.{config_begins, config_skipped}
use Rattle.scrub_config.proofs.write_config.Goals as goal

pub returns-then-count-offset-eq0 : goal.returns-then-count-offset-eq0
returns-then-count-offset-eq0 c = config_skipped _ _ _ _ _ (omega arith) (omega arith)

pub write_tag-a-requires : goal.write_tag-a-requires
write_tag-a-requires c =
    let begun = config_begins c.args.p.now c.args.offset c.args.mappings.now c.args.out.now c.args.at c.requires.1 c.if-count-offset-eq0.false c.requires.2 in
    (omega (arith, room_for (tag_bytes 1) _ begun, length_tag 1), omega arith)

pub write_length-b-requires : goal.write_length-b-requires
write_length-b-requires c =
    let begun = config_begins c.args.p.now c.args.offset c.args.mappings.now c.args.out.now c.args.at c.requires.1 c.if-count-offset-eq0.false c.requires.2 in
    room_for _ _ (writing_run _ _ begun c.write_tag-a.ensures)

pub write_be16-first-requires : goal.write_be16-first-requires
write_be16-first-requires c =
    let begun = config_begins c.args.p.now c.args.offset c.args.mappings.now c.args.out.now c.args.at c.requires.1 c.if-count-offset-eq0.false c.requires.2 in
    let sized = writing_run _ _ (writing_run _ _ begun c.write_tag-a.ensures) c.write_length-b.ensures in
    omega (arith, room_for (digits 256 2 c.args.offset) _ sized, length_digits 256 2 c.args.offset)

pub write_mappings-requires : goal.write_mappings-requires
write_mappings-requires c =
    let begun = config_begins c.args.p.now c.args.offset c.args.mappings.now c.args.out.now c.args.at c.requires.1 c.if-count-offset-eq0.false c.requires.2 in
    let sized = writing_run _ _ (writing_run _ _ begun c.write_tag-a.ensures) c.write_length-b.ensures in
    (c.requires.1, (writing_run (digits 256 2 c.args.offset) _ sized c.write_be16-first.ensures).room)

pub returns : goal.returns
returns c =
    let begun = config_begins c.args.p.now c.args.offset c.args.mappings.now c.args.out.now c.args.at c.requires.1 c.if-count-offset-eq0.false c.requires.2 in
    let sized = writing_run _ _ (writing_run _ _ begun c.write_tag-a.ensures) c.write_length-b.ensures in
    writing_last _ (writing_run (digits 256 2 c.args.offset) _ sized c.write_be16-first.ensures) c.write_mappings.ensures
