-- `pack_text::put_reading` meets its contract: the pack's line, then those of its items. All of it fits.
use mathlib.Core.Path.{refl}
use native.Mathlib.Omega.{arith}
use lib.ListN.{length, take, length-append}
use Rattle.runs.specs.Digits.{Bytes}
use Rattle.runs.proofs.Writing.{Writing, writing_run, writing_last}
use Rattle.pack.specs.Reading.{reading}
use Rattle.pack_text.specs.Text.{line, pack_fields, listing}
use Rattle.pack_text.specs.Items.{item_lines}
use Rattle.pack_text.proofs.Fields.{line_room}
use Rattle.pack_text.proofs.Whole.{reading_lines, reading_begins}
use Rattle.pack_text.proofs.put_reading.Goals as goal
use Rattle.pack_text.proofs.put_reading.Goals.{After-put_pack-next}

-- what is left after the pack's line
after : (c : After-put_pack-next)
    → let a = c.args in
    let f = a.found.now in
    Bytes a.pack.now → Writing a.out.now 0 (listing a.pack.now (reading a.pack.now)) c.put_pack-next.new.out c.put_pack-next.result (item_lines a.pack.now f.labels (take f.count f.items))
after c b = writing_run _ _ (reading_begins c.args.pack.now c.args.out.now b c.requires.0 c.requires.1) c.put_pack-next.ensures

pub put_pack-next-requires : goal.put_pack-next-requires
put_pack-next-requires c =
    let a = c.args in
    let f = a.found.now in
    let first = pack_fields f.offset f.count f.crc in
    let rest = item_lines a.pack.now f.labels (take f.count f.items) in
    line_room 0 (length a.out.now) first (omega arith) refl (omega (arith, (reading_begins a.pack.now a.out.now (λ k. (c.type_inv.pack k).fits) c.requires.0 c.requires.1).room, length-append (line first) rest))

pub slice_bounds-put_items-end : goal.slice_bounds-put_items-end
slice_bounds-put_items-end c = (reading_lines _ (λ k. (c.type_inv.pack k).fits) c.requires.0).there

pub shared_ref_as_front-put_items : goal.shared_ref_as_front-put_items
shared_ref_as_front-put_items c = (reading_lines _ (λ k. (c.type_inv.pack k).fits) c.requires.0).few

pub put_items-requires : goal.put_items-requires
put_items-requires c = ((after (goal.at.put_items-requires c).After-put_pack-next (λ k. (c.type_inv.pack k).fits)).room, (reading_lines _ (λ k. (c.type_inv.pack k).fits) c.requires.0).stand)

pub returns : goal.returns
returns c = writing_last _ (after (goal.at.returns c).After-put_pack-next (λ k. (c.type_inv.pack k).fits)) c.put_items.ensures
