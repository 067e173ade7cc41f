-- `scrub::prepare` meets its contract. Each pass asks what an accepted pack has, and the passes together prepare what is kept.
use Rattle.scrub.proofs.Accepting.{few_items, flags_ask, note_asks, plan_asks, labels_few, marks_ask, index_asks, prepared}
use Rattle.scrub.proofs.prepare.Goals as goal

pub flags-flags-requires : goal.flags-flags-requires
flags-flags-requires c = flags_ask c.requires.0 c.args.sheet.now

pub note-requires : goal.note-requires
note-requires c = (few_items c.requires.0 c.args.sheet.now, note_asks c.requires.0 c.args.sheet.now, c.new-names.ensures)

pub assign-requires : goal.assign-requires
assign-requires c = (
  labels_few c.requires.0 c.args.sheet.now _ c.flags-flags.ensures _ c.note.ensures,
  c.requires.1,
)

pub shared_ref_as_front-by_index : goal.shared_ref_as_front-by_index
shared_ref_as_front-by_index c = labels_few c.requires.0 c.args.sheet.now _ c.flags-flags.ensures _ c.note.ensures

pub by_index-index-requires : goal.by_index-index-requires
by_index-index-requires c = index_asks c.requires.0 c.args.sheet.now _ c.flags-flags.ensures _ c.note.ensures _ c.assign.ensures

pub plan_items-bytes-requires : goal.plan_items-bytes-requires
plan_items-bytes-requires c = (
  few_items c.requires.0 c.args.sheet.now,
  plan_asks c.requires.0 c.args.sheet.now,
  marks_ask c.requires.0 c.args.sheet.now _ c.flags-flags.ensures _ c.note.ensures,
  c.requires.2,
)

pub returns : goal.returns
returns c = record {
  few = labels_few c.requires.0 c.args.sheet.now _ c.flags-flags.ensures _ c.note.ensures;
  ready =
      prepared c.requires.0 c.args.sheet.now _ c.flags-flags.ensures _ c.note.ensures _ c.assign.ensures _ _ _ _ c.by_index-index.ensures c.plan_items-bytes.ensures
      c.config_size.ensures;
}
